-- How far reading goes ahead of what was run.
use Rattle.std.proofs.Common.{◌≡◌, ℕ, ◌+◌, ◌<◌, ◌≤◌, Bool, true, false, List, [], ◌∷◌, ◌++◌, length, get_or, suc, refl, sym, ◌∙◌, ap, subst, arith, append-nil, length-append}
use Rattle.std.specs.Prelude.{slice_index}
use Rattle.std.specs.List.{AllByRecursion}
use Rattle.memory_window.specs.declared.regions.Region.{Region}
use Rattle.scenario.specs.declared.reader.Reader.{Reader}
use Rattle.scenario.specs.declared.reason.Reason.{Reason}
use Rattle.scenario.specs.FrameLists.{Frame}
use Rattle.scenario.specs.Texts.{Text, Given, Head, Whole, Reading, Bad, reading, IsGoodFrame, AreGood}
use Rattle.scenario.specs.Standing.{Stands}
use Rattle.scenario.specs.TextLaws.{texts_grow, given_are_good, items_have_stops, stops_stay}
use Rattle.rehearsal.specs.declared.report.Report.{Report}
use Rattle.rehearsal.specs.declared.report.Status.TheVariants as statuses
use Rattle.rehearsal.specs.Text.{StopsAt}
use Rattle.rehearsal.specs.Outcome.{frames_of, ReadsAhead}

-- what holds of a report holds of an equal one
pub ahead_by : (report expected : Report) (text : Text) → report ≡ expected → ReadsAhead expected text → ReadsAhead report text
ahead_by report expected text is ahead = subst (λ (r : Report). ReadsAhead r text) (sym is) ahead

-- a line is bad, and at most a piece was read past its end
pub bad_ahead : (now whole : Text) (gave : List Given) (pending : List ℕ) → reading whole ≡ reading now → gave ≡ (reading now).items → whole.bytes ≡ now.bytes ++ pending → length pending ≤ 4096
    → ((at : ℕ) (why : Reason) → (reading now).ending ≡ Bad at why → StopsAt now (length gave))
    → (line : ℕ) (reason : Reason) → (reading whole).ending ≡ Bad line reason → length whole.bytes ≤ slice_index (reading whole).stops (length (reading whole).items) + 4096
bad_ahead now whole gave pending same all bytes few stops line reason bad =
    let stop : get_or (reading now).stops (length gave) 0 ≡ length now.bytes = stops line reason (ap (λ (r : Reading). r.ending) (sym same) ∙ bad) in
    let index : get_or (reading whole).stops (length (reading whole).items) 0 ≡ get_or (reading now).stops (length gave) 0 =
    ap (λ (r : Reading). get_or r.stops (length r.items) 0) same ∙ ap (λ (items : List Given). get_or (reading now).stops (length items) 0) (sym all) in
    let size = ap length bytes ∙ length-append now.bytes pending in
    omega (arith, stop, index, size, few)

-- as many frames as items behind the header
pub frames_behind : (regions : List Region) (frames : List Given) → AllByRecursion (IsGoodFrame regions) frames → length (frames_of frames) ≡ length frames
unfolding frames_of
frames_behind regions [] all = refl
frames_behind regions (Head epoch others ∷ frames) all = absurd all.0
frames_behind regions (Whole frame ∷ frames) all = ap suc (frames_behind regions frames all.1)

-- one item more than frames
pub one_more : (r : Reader) (t : Text) (gave : List Given) → Stands r t gave → 0 < length gave → length gave ≡ length (frames_of gave) + 1
unfolding frames_of
one_more r t gave stands some = by_first gave (given_are_good r t gave stands) some
  where
    by_first : (xs : List Given) → AreGood xs → 0 < length xs → length xs ≡ length (frames_of xs) + 1
    by_first [] good some = absurd (omega arith)
    by_first (Head epoch regions ∷ frames) good some = let same = frames_behind regions frames good.3 in omega (arith, same)
    by_first (Whole frame ∷ more) good some = absurd good

-- a stop that was read stays
stop_stays : (now : Text) (pending : List ℕ) (end : Bool) (n : ℕ) → (now.closed ≡ true → (pending ≡ []) × (end ≡ true)) → n < length (reading now).stops
    → get_or (reading (record { bytes = now.bytes ++ pending; closed = end })).stops n 0 ≡ get_or (reading now).stops n 0
stop_stays now pending end n same within = by_closed now.bytes now.closed same within
  where
    by_closed : (bytes : List ℕ) (closed : Bool) → (closed ≡ true → (pending ≡ []) × (end ≡ true)) → n < length (reading (record { bytes = bytes; closed = closed })).stops
        → get_or (reading (record { bytes = bytes ++ pending; closed = end })).stops n 0 ≡ get_or (reading (record { bytes = bytes; closed = closed })).stops n 0
    by_closed bytes true same within = let s = same refl in rw (s.0, s.1, append-nil bytes) refl
    by_closed bytes false same within = stops_stay _ _ n (texts_grow bytes pending end) within

-- the output failed, and at most a piece was read past the end of the frame's `tick` line
pub cut_ahead : (now : Text) (got rest : List Given) (f : Frame) (pending : List ℕ) (end : Bool) (frames : ℕ) → (now.closed ≡ true → (pending ≡ []) × (end ≡ true))
    → (reading now).items ≡ (got ++ Whole f ∷ []) ++ rest → length got ≡ length (frames_of got) + 1 → frames ≡ length (frames_of got) → StopsAt now (length got) → length pending ≤ 4096
    → length (now.bytes ++ pending) ≤ slice_index (reading (record { bytes = now.bytes ++ pending; closed = end })).stops (frames + 1) + 4096
cut_ahead now got rest f pending end frames same items count number stop few =
    let all = ap length items ∙ length-append (got ++ Whole f ∷ []) rest in
    let front = length-append got (Whole f ∷ []) in
    let stops = (items_have_stops now).items in
    let within : length got < length (reading now).stops = omega (arith, all, front, stops) in
    let stays = stop_stays now pending end (length got) same within in
    let index : frames + 1 ≡ length got = omega (arith, count, number) in
    let size = length-append now.bytes pending in
    rw index (omega (arith, stays, stop, size, few))

-- the header was read, and at most a piece past its end
pub header_ahead : (now : Text) (item : Given) (rest : List Given) (pending : List ℕ) (end : Bool) → (now.closed ≡ true → (pending ≡ []) × (end ≡ true))
    → (reading now).items ≡ (item ∷ []) ++ rest → StopsAt now 0 → length pending ≤ 4096
    → length (now.bytes ++ pending) ≤ slice_index (reading (record { bytes = now.bytes ++ pending; closed = end })).stops 0 + 4096
header_ahead now item rest pending end same items stop few =
    let all = ap length items in
    let stops = (items_have_stops now).items in
    let within : 0 < length (reading now).stops = omega (arith, all, stops) in
    let stays = stop_stays now pending end 0 same within in
    let size = length-append now.bytes pending in
    omega (arith, stays, stop, size, few)

-- nothing was read
pub nothing_ahead : (report : Report) (end : Bool) → report ≡ record { status = statuses.NoMemory; file = 0; line = 0; reason = 0; frames = 0 } → ReadsAhead report (record { bytes = []; closed = end })
nothing_ahead report end is = ahead_by report _ (record { bytes = []; closed = end }) is (omega arith)
