-- The lines of a frame that are put into an empty block, and handed on.
use Rattle.std.proofs.Common.{◌≡◌, ℕ, ◌+◌, ◌-◌, ◌<◌, ◌≤◌, List, [], ◌++◌, length, take, Option, Some, None, refl, sym, ◌∙◌, ap, append-nil, arith}
use Rattle.std.specs.Prelude.{Result, Ok, Err, OnOk, OnErr, MatchResult}
use Rattle.std.specs.List.{flat_map}
use Rattle.bus_pipes.specs.declared.names.Out.{Out}
use Rattle.bus_pipes.specs.declared.names.Dropped.{Dropped}
use Rattle.packet_log.specs.Items.{item_line}
use Rattle.packet_log.specs.Lines.{drop_line}
use Rattle.std.proofs.Math.Seq.{take-append_seam, take-append-add}
use Rattle.std.proofs.lemmas.List.{length-append, length-take, take-take}
use Rattle.fsw_outside.specs.Told.{WhereTold}
use Rattle.fsw_outside.specs.Written.{AppendsPart, WritesAll}
use Rattle.packet_log.specs.Blocks.{Waiting, Notes, Puts, empty_block, tells}
use Rattle.packet_log.proofs.Blocks.{writes_all}

-- what is told beside an empty block is what the sink tells
tells_alone : (held : Option (List ℕ)) → tells held empty_block ≡ held
tells_alone None = refl
tells_alone (Some bytes) = ap (λ (b : List ℕ). Some b) (append-nil bytes)

-- nothing was given to an empty block, and no frame ended
pub notes_begin : Notes [] 0 empty_block
notes_begin = record { before = 0; size = refl; earlier = []; whole = refl; handed = λ k d within. absurd (omega arith); within = λ k d within. absurd (omega arith) }

-- what waits is no more than what was given
few_wait : (count : ℕ) (block : Waiting) → Notes [] (0 + count) block → length block.bytes ≤ count
few_wait count block notes = omega (arith, notes.size)

-- what a sink took of a text whose rest waits
pub cut : (text before after rest : List ℕ) (count : ℕ) → count ≤ length text → length rest ≤ count → after ++ rest ≡ before ++ take count text → after ≡ before ++ take (count - length rest) text
cut text before after rest count within few same =
    let full : length (take count text) ≡ count = length-take count text ∙ omega arith in
    let sizes = sym (length-append after rest) ∙ ap (λ (xs : List ℕ). length xs) same ∙ length-append before (take count text) in
    let size : length after ≡ length before + (count - length rest) = omega (arith, sizes, full, few) in
    sym (take-append_seam after rest) ∙ ap (λ (xs : List ℕ). take (length after) xs) same ∙ ap (λ (n : ℕ). take n (before ++ take count text)) size
    ∙ take-append-add before (take count text) (count - length rest) ∙ ap (λ (xs : List ℕ). before ++ xs) (take-take (count - length rest) count text (omega arith))

-- A part of a text waits where the sink didn't take all of it: then the sink took a proper first part.
module _ {E : Type 0} (result : Result Unit E) (text : List ℕ) (block : Waiting) (start end : Option (List ℕ)) (puts : Puts result text empty_block block start end) where
  within : puts.count ≤ length text
  within = of_size result puts.size
    where
      of_size : (r : Result Unit E) → MatchResult r (λ _. puts.count ≡ length text) (λ _. puts.count < length text) → puts.count ≤ length text
      of_size (Ok done) is = omega (arith, is)
      of_size (Err e) is = omega (arith, is)

  pub handed_part : 0 < length block.bytes → WhereTold start end (λ before after. AppendsPart text before after)
  handed_part left = λ after is.
      let told = puts.told (after ++ block.bytes) (ap (λ (held : Option (List ℕ)). tells held block) is) in
      let few = few_wait puts.count block (puts.notes [] 0 notes_begin) in
      let taken = cut text told.0 after block.bytes puts.count within few told.2 in
      (told.0, sym (tells_alone start) ∙ told.1, record { count = puts.count - length block.bytes; short = omega (arith, left, few, within); appended = taken })

-- a text was put into an empty block, and what waits was handed on
pub handed_on : {E : Type 0} (result : Result Unit E) (text : List ℕ) (middle block : Waiting) (start between end : Option (List ℕ)) → Puts {E = E} (Ok tt) text empty_block middle start between
    → WhereTold (tells between middle) (tells end block) (λ before after. after ≡ before) → ((ends : List ℕ) (given : ℕ) → Notes ends given middle → Notes ends given block)
    → MatchResult result (λ _. block ≡ empty_block) (λ _. 0 < length block.bytes) → WhereTold start end (WritesAll result text)
handed_on (Ok done) text middle block start between end puts moved notes whole = λ after is.
    let there : tells end block ≡ Some after = ap (tells end) whole ∙ tells_alone end ∙ is in
    let same = moved after there in
    let told = writes_all (Ok tt) text empty_block middle start between puts same.0 same.1 in
    (told.0, sym (tells_alone start) ∙ told.1, same.2 ∙ told.2)
handed_on {E} (Err error) text middle block start between end puts moved notes left =
    let later : Puts (Ok tt) text empty_block block start end = record {
      count = puts.count;
      size = puts.size;
      notes = λ ends given noted. notes ends (given + puts.count) (puts.notes ends given noted);
      told = λ after is.
          let same = moved after is in
          let told = puts.told same.0 same.1 in
          (told.0, told.1, same.2 ∙ told.2);
    } in
    handed_part {E = E} (Ok tt) text block start end later left

-- the lines of what was sent and dropped, by other names
pub lines_by : (number : ℕ) (sent items : List Out) (drops lost : List Dropped) → sent ≡ items → drops ≡ lost
    → flat_map (item_line number) sent ++ flat_map (drop_line number) drops ≡ flat_map (item_line number) items ++ flat_map (drop_line number) lost
lines_by number sent items drops lost a b = ap (λ (xs : List Out). flat_map (item_line number) xs ++ flat_map (drop_line number) drops) a ∙ ap (λ (ds : List Dropped). flat_map (item_line number) items ++ flat_map (drop_line number) ds) b

-- what holds of each answer
pub by_result : {E : Type 0} (result : Result Unit E) (block : Waiting) → OnOk result (block ≡ empty_block) → OnErr result (0 < length block.bytes) → MatchResult result (λ _. block ≡ empty_block) (λ _. 0 < length block.bytes)
by_result (Ok done) block whole left = whole
by_result (Err error) block whole left = left
