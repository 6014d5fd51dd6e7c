-- Laws of texts, and of readers that stand for them.
use Rattle.std.proofs.Common.{◌≡◌, ◌<◌, ℕ, ◌≤◌, Bool, false, List, ◌++◌, length, get_or, ap}
use Rattle.scenario.specs.declared.reader.Reader.{Reader}
use Rattle.scenario.specs.Texts.{Text, Given, Reading, Open, Grows, AreGood, reading}
use Rattle.scenario.specs.Standing.{Stands, is_finished}
use Rattle.scenario.specs.GrowthLaws as growth
use Rattle.scenario.specs.GoodLaws as good

-- an open text that grows keeps its items and its stops, or its bad line
pub texts_grow : (front more : List ℕ) (end : Bool) → Grows (reading (record { bytes = front; closed = false })) (reading (record { bytes = front ++ more; closed = end }))
texts_grow front more end = growth.texts_grow front more end

-- an open text without a bad line has at most 16,777,856 bytes
pub open_is_bounded : (bytes : List ℕ) → (reading (record { bytes = bytes; closed = false })).ending ≡ Open → length bytes ≤ 16777856
open_is_bounded bytes o = growth.open_is_bounded bytes o

-- the items of a text: a header, and then at most 100,000 frames of at most 64 items, upsets in the map
pub items_are_good : (t : Text) → AreGood (reading t).items
items_are_good t = good.items_are_good t

-- what a reader gave is a first part of the items
pub given_first : (r : Reader) (t : Text) (gave : List Given) → Stands r t gave → (rest : List Given) × ((reading t).items ≡ gave ++ rest)
given_first r t gave s = (_, ap (λ (x : Reading). x.items) s.now)

-- and so it is good too
pub given_are_good : (r : Reader) (t : Text) (gave : List Given) → Stands r t gave → AreGood gave
given_are_good r t gave s = let first = given_first r t gave s in good.front_is_good gave first.0 (rw (← first.1) (items_are_good t))

-- whether the text is closed can be told from the reader
pub closed_is : (r : Reader) (t : Text) (gave : List Given) → Stands r t gave → t.closed ≡ is_finished r
closed_is r t gave s = s.ended

-- each item has a stop, and a bad line one more
pub items_have_stops : (t : Text) → growth.HasStops (reading t)
items_have_stops t = growth.items_have_stops t

-- a stop stays when the text grows
pub stops_stay : (r q : Reading) (n : ℕ) → Grows r q → n < length r.stops → get_or q.stops n 0 ≡ get_or r.stops n 0
stops_stay r q n g h = growth.stops_stay r q n g h
