-- Rows side by side, and one by one.
use Rattle.std.proofs.Common.{◌≡◌, Bool, true, false, cond, ℕ, zero, suc, Vec, Global, ◌+◌, ◌<◌, List, [], ◌∷◌, ◌++◌, length, get_or, set, take, drop, map, replicate, refl, sym, ap, ap₂, ◌∙◌, subst, arith, All}
use Rattle.std.specs.Fork.{IsChunk}
use Rattle.std.proofs.lemmas.Bool.{false≢true}
use Rattle.std.proofs.lemmas.List.{length-map, take_at, map-append, map-set, get_or-map, set-get_or, get_or_default}
use Rattle.std.proofs.lemmas.List.Elements.{All-nil, All-cons, All-append, All-map}
use Rattle.std.proofs.lemmas.List.Sums.{sum_by-append}
use Rattle.crew_board.proofs.Times.{times_in_none, times_in-cons, times_in_order}
use Rattle.crew_board.specs.declared.row.Row.{Row}
use Rattle.crew_board.specs.Claim.{times, times_in}
use Rattle.crew_board.specs.declared.way.Way.{Way}
use Rattle.crew_board.specs.declared.way.Way.TheVariants.{Shared, Alone}
use Rattle.crew_board.specs.Work.{AreDraws, AreInOrder, StayBut}
use Rattle.crew_board.specs.Rows.{FitsJobs, IsWorked, draws_of, first_scratches, AreShared}
use Rattle.crew_board.specs.Ways.{AreLeft, AreLeftOf}

-- a fact of all rows, in a part of them
pub all_in_chunk : {X : Type 0} (P : X → Type 0) (xs ys : List X) (size start : ℕ) → All P xs → IsChunk xs size start ys → All P ys
all_in_chunk P xs ys size start all chunk k d h = subst P (sym (chunk.elements k d h)) (all (start + k) d (let b = chunk.in_bounds in omega arith))

-- rows that shared the jobs, and others that drew nothing
pub shared_with_idle : {T S : Type 0} (leaves : T → S → Type 0) (tasks : List T) (chosen : List ℕ) (active idle : List (Row S)) (count : ℕ) → AreShared leaves tasks chosen active → All (IsWorked leaves tasks) idle
    → draws_of idle ≡ replicate count [] → AreShared leaves tasks chosen (active ++ idle)
shared_with_idle {T} {S} leaves tasks chosen active idle count shared worked none = record {
  worked = All-append (IsWorked leaves tasks) active idle shared.worked worked;
  once = λ job.
      (let a : times_in job (draws_of (active ++ idle)) ≡ times_in job (draws_of active ++ draws_of idle) = ap (times_in job) (map-append (λ (row : Row S). row.drawn.items) active idle) in
      let b = sum_by-append (times job) (draws_of active) (draws_of idle) in
      let c : times_in job (draws_of idle) ≡ 0 = ap (times_in job) none ∙ times_in_none job count in
      let d = shared.once job in omega arith);
}

-- rows that drew nothing
pub none_drew : {S : Type 0} (rows : List (Row S)) → ((k : ℕ) (d : Row S) → k < length rows → (get_or rows k d).drawn.items ≡ []) → draws_of rows ≡ replicate (length rows) []
none_drew [] none = refl
none_drew (row ∷ rows) none = ap₂ (λ (l : List ℕ) (ls : List (List ℕ)). l ∷ ls) (none 0 row (omega arith)) (none_drew rows (λ k d h. none (suc k) d (omega arith)))

-- what a row drew, among what all did
pub draws_at : {S : Type 0} (rows : List (Row S)) (i : ℕ) (d : Row S) → i < length rows → get_or (draws_of rows) i [] ≡ (get_or rows i d).drawn.items
draws_at {S} rows i d inside = let f : Row S → List ℕ = λ row. row.drawn.items in get_or-map f rows i d [] inside

-- a row that drew the same
pub draws_same : {S : Type 0} (rows : List (Row S)) (i : ℕ) (d new : Row S) → i < length rows → new.drawn.items ≡ (get_or rows i d).drawn.items → draws_of (set rows i new) ≡ draws_of rows
draws_same {S} rows i d new inside same =
    let f : Row S → List ℕ = λ row. row.drawn.items in
    map-set f rows i new ∙ ap (λ (l : List ℕ). set (map f rows) i l) (same ∙ sym (draws_at rows i d inside)) ∙ set-get_or (map f rows) i []

-- what rows leave that shared the jobs
pub shared_left : {T S : Type 0} (leaves : T → S → Type 0) (tasks : List T) (chosen : List ℕ) (rows new : List (Row S)) (workers : ℕ) → AreShared leaves tasks chosen rows → draws_of new ≡ draws_of rows → length rows ≡ workers
    → AreLeftOf Shared (length tasks) chosen workers (draws_of new)
shared_left {T} {S} leaves tasks chosen rows new workers shared same count =
    let f : Row S → List ℕ = λ row. row.drawn.items in
    let draws : All (AreDraws (length tasks)) (draws_of rows) = All-map (AreDraws (length tasks)) f rows (λ k d h. (shared.worked k d h).draws) in
    subst (λ (ls : List (List ℕ)). AreLeftOf Shared (length tasks) chosen workers ls) (sym same) (length-map rows f ∙ count, draws, shared.once)

-- the scratches of the first row are as many as there are jobs
pub first_fits : {S : Type 0} (jobs : ℕ) (rows : List (Row S)) → 0 < length rows → All (FitsJobs jobs) rows → length (first_scratches rows) ≡ jobs
first_fits jobs [] some_ fits = absurd (omega arith)
first_fits jobs (row ∷ rows) some_ fits = let here = (fits 0 row (omega arith)).scratches in let len = row.scratches.ok.0 in omega arith

-- all elements of a list, written over another that is as long
pub written_over : {A : Type 0} (old new : List A) (n : ℕ) → length new ≡ n → take n (new ++ drop (length new) old) ≡ new
written_over old new n count = take_at new (drop (length new) old) n count

-- one row that did the chosen jobs in order
pub one_shared : {T S : Type 0} (leaves : T → S → Type 0) (tasks : List T) (chosen : List ℕ) (row : Row S) → IsWorked leaves tasks row → row.drawn.items ≡ chosen → AreShared leaves tasks chosen (row ∷ [])
one_shared leaves tasks chosen row worked is = record {
  worked = All-cons (IsWorked leaves tasks) row [] worked (All-nil (IsWorked leaves tasks));
  once = λ job. (let one : times job row.drawn.items ≡ times job chosen = ap (times job) is in let c = times_in-cons job row.drawn.items [] in omega arith);
}

-- all jobs in order rise, and are jobs
pub in_order_rises : (jobs : ℕ) (all : List ℕ) → AreInOrder jobs all → AreDraws jobs all
in_order_rises jobs all order =
    let len = order.0 in (
      λ i j before inside. (let a = order.1 i (omega arith) in let b = order.1 j (omega arith) in omega arith),
      λ k d inside. (let a = order.1 k (omega arith) in let plain = get_or_default all k d 0 inside in omega arith),
    )

-- what is left where all jobs were chosen
pub all_left : (way : Way) (jobs : ℕ) (all : List ℕ) (workers : ℕ) (draws : List (List ℕ)) → AreInOrder jobs all → AreLeftOf way jobs all workers draws → AreLeft way jobs workers draws
all_left Shared jobs all workers draws order left =
    (left.0, left.1, λ job h. left.2 job ∙ times_in_order jobs job all (in_order_rises jobs all order).0 order.0 order.1 h)
all_left Alone jobs all workers draws order left = left

-- the first of several rows
pub first_of : {S : Type 0} (rows : List (Row S)) (d : Row S) → 0 < length rows → first_scratches rows ≡ (get_or rows 0 d).scratches.items
first_of [] d some_ = absurd (omega arith)
first_of (row ∷ rows) d some_ = refl

-- another row that has the same scratches
pub first_set : {S : Type 0} (rows : List (Row S)) (i : ℕ) (d new : Row S) → i < length rows → new.scratches ≡ (get_or rows i d).scratches → first_scratches (set rows i new) ≡ first_scratches rows
first_set [] i d new inside same = absurd (omega arith)
first_set {S} (row ∷ rows) zero d new inside same = ap (λ (v : Vec S Global). v.items) same
first_set (row ∷ rows) (suc i) d new inside same = refl

-- the first of some rows, and of others behind them
pub first_with_idle : {S : Type 0} (active idle : List (Row S)) → 0 < length active → first_scratches (active ++ idle) ≡ first_scratches active
first_with_idle [] idle some_ = absurd (omega arith)
first_with_idle (row ∷ active) idle some_ = refl

pub first_taken : {S : Type 0} (n : ℕ) (rows : List (Row S)) → 0 < n → first_scratches (take n rows) ≡ first_scratches rows
first_taken zero rows some_ = absurd (omega arith)
first_taken (suc n) [] some_ = refl
first_taken (suc n) (row ∷ rows) some_ = refl

-- a row of some
pub some_row : {S : Type 0} (rows : List (Row S)) → 0 < length rows → Row S
some_row [] some_ = absurd (omega arith)
some_row (row ∷ rows) some_ = row

-- another first row
pub first_written : {S : Type 0} (rows : List (Row S)) (new : Row S) → 0 < length rows → first_scratches (set rows 0 new) ≡ new.scratches.items
first_written [] new some_ = absurd (omega arith)
first_written (row ∷ rows) new some_ = refl

-- The rows of one call were a part of one row, the first: its scratches of the other jobs stay.
pub chunk_stays : {S : Type 0} (jobs : List ℕ) (before new part after : List (Row S)) (d : Row S) (start offset : ℕ) → start + offset ≡ 0 → IsChunk before 1 start part → length after ≡ 1
    → get_or after offset d ≡ get_or new 0 d → 0 < length new → StayBut jobs (first_scratches part) (first_scratches after) → StayBut jobs (first_scratches before) (first_scratches new)
chunk_stays {S} jobs rows new part after d start offset first chunk one element some_ stay job s none =
    let at : List S → S = λ l. get_or l job s in
    let scratches : Row S → List S = λ row. row.scratches.items in
    let zeroth : offset ≡ 0 = omega arith in
    let begins : start + 0 ≡ 0 = omega arith in
    let bounds = chunk.in_bounds in
    let inside = chunk.nonempty in
    ap at (first_of new d some_ ∙ ap scratches (sym element ∙ ap (λ (n : ℕ). get_or after n d) zeroth) ∙ sym (first_of after d (omega arith)))
    ∙ stay job s none
    ∙ ap at (first_of part d inside ∙ ap scratches (chunk.elements 0 d inside ∙ ap (λ (n : ℕ). get_or rows n d) begins) ∙ sym (first_of rows d (omega arith)))

-- a crew that ran has a result of each job
pub ran_all : {S : Type 0} (ran : Bool) (first results : List S) (jobs : ℕ) → cond ran first [] ≡ results → ran ≡ true → length first ≡ jobs → length results ≡ jobs
ran_all true first results jobs is ran count = ap length (sym is) ∙ count
ran_all false first results jobs is ran count = absurd (false≢true ran)

-- the results of a crew that ran
pub were_first : {S : Type 0} (ran : Bool) (first results : List S) → cond ran first [] ≡ results → 0 < length results → first ≡ results
were_first true first results is some_ = is
were_first false first results is some_ = absurd (let none : 0 ≡ length results = ap length is in omega arith)
