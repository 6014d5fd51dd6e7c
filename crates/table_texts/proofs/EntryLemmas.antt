-- Lemmas on the lines of entries.
use Rattle.std.proofs.Common.{◌≡◌, ℕ, ◌+◌, true, false, List, [], ◌∷◌, ◌++◌, refl, ap, sym, ◌∙◌, Option, append_assoc}
use Rattle.std.specs.Prelude.{Result, Ok, Err, codes}
use Rattle.std.specs.Str.{bytes_eq}
use Rattle.row_forms.specs.Words.{number}
use Rattle.row_forms.specs.Rows.{with_front}
use Rattle.telecommands.specs.declared.command.Command.{Command}
use Rattle.table_texts.specs.declared.fault.LineFault.{LineFault}
use Rattle.table_texts.specs.declared.fault.LineFault.TheVariants as faults
use Rattle.table_texts.specs.declared.fault.LineError.{LineError}
use Rattle.table_texts.specs.declared.fault.LineError.TheVariants as line_errors
use Rattle.table_texts.specs.declared.fault.TextFault.{TextFault}
use Rattle.table_texts.specs.declared.fault.TextError.{TextError}
use Rattle.table_texts.specs.declared.fault.TextError.TheVariants as errors
use Rattle.table_texts.specs.declared.layout.Layout.{Layout}
use Rattle.table_texts.specs.Lines.{Numbered}
use Rattle.table_texts.specs.Entries.{Placed, number_said, at_row, raw_said, entry_said, left_out, entries_said, then_entries, placed_behind, GivesEntry}
use Rattle.table_texts.specs.Endings.{ended, is_end, behind_first, fault_on, error_on, GivesText}

pub entry_none : (epoch : Option ℕ) (cs : List Command) (l : Layout) (place : ℕ) (ws : List (List ℕ)) → ws ≡ [] → entry_said epoch cs l place ws ≡ Err faults.Entry
unfolding entry_said
entry_none epoch cs l place ws e = rw e refl

pub entry_raw : (epoch : Option ℕ) (cs : List Command) (l : Layout) (place : ℕ) (ws : List (List ℕ)) (w : List ℕ) (more : List (List ℕ)) → ws ≡ w ∷ more → bytes_eq w (codes "raw") ≡ true → entry_said epoch cs l place ws ≡ raw_said l place more
unfolding entry_said
entry_raw epoch cs l place ws w more e raw = rw e (rw raw refl)

pub entry_row : (epoch : Option ℕ) (cs : List Command) (l : Layout) (place : ℕ) (ws : List (List ℕ)) (w : List ℕ) (more : List (List ℕ)) → ws ≡ w ∷ more → bytes_eq w (codes "raw") ≡ false → entry_said epoch cs l place ws ≡ at_row epoch cs l place (number_said l place (number 65535 w)) more
unfolding entry_said
entry_row epoch cs l place ws w more e raw = rw e (rw raw refl)

pub entries_nil : (epoch : Option ℕ) (cs : List Command) (l : Layout) (place n : ℕ) (lines : List Numbered) → lines ≡ [] → entries_said epoch cs l place n lines ≡ Err (fault_on n faults.End)
unfolding entries_said
entries_nil epoch cs l place n lines e = rw e refl

pub entries_end : (epoch : Option ℕ) (cs : List Command) (l : Layout) (place n m : ℕ) (ws : List (List ℕ)) (lines more : List Numbered) → lines ≡ record { number = m; words = ws } ∷ more → is_end ws ≡ true → entries_said epoch cs l place n lines ≡ ended (left_out l place) m (behind_first ws) more
unfolding entries_said
entries_end epoch cs l place n m ws lines more e end = rw e (rw end refl)

pub entries_line : (epoch : Option ℕ) (cs : List Command) (l : Layout) (place n m : ℕ) (ws : List (List ℕ)) (lines more : List Numbered) → lines ≡ record { number = m; words = ws } ∷ more → is_end ws ≡ false → entries_said epoch cs l place n lines ≡ then_entries m (entry_said epoch cs l place ws) (λ k. entries_said epoch cs l k (m + 1) more)
unfolding entries_said
entries_line epoch cs l place n m ws lines more e end = rw e (rw end refl)

front_front : (a b : List ℕ) (r : Result (List ℕ) TextFault) → with_front a (with_front b r) ≡ with_front (a ++ b) r
front_front a b (Ok bytes) = ap Ok (sym (append_assoc a b bytes))
front_front a b (Err fault) = refl

abbrev number_in : Result Placed LineFault → ℕ
number_in (Ok placed) = placed.number
number_in (Err fault) = 0

abbrev bytes_in : Result Placed LineFault → List ℕ
bytes_in (Ok placed) = placed.bytes
bytes_in (Err fault) = []

placed_then : (old mid : List ℕ) (said : Result Placed LineFault) (m k : ℕ) (next : ℕ → Result (List ℕ) TextFault) → placed_behind old said ≡ Ok (record { number = k; bytes = mid }) → with_front old (then_entries m said next) ≡ with_front mid (next k)
placed_then old mid (Ok q) m k next e =
    let same : q.number ≡ k = ap number_in e in
    let whole : old ++ q.bytes ≡ mid = ap bytes_in e in
    front_front old q.bytes (next q.number) ∙ ap (λ (xs : List ℕ). with_front xs (next q.number)) whole ∙ ap (λ (j : ℕ). with_front mid (next j)) same
placed_then old mid (Err fault) m k next e = absurd (cc)

fault_then : (old : List ℕ) (said : Result Placed LineFault) (m : ℕ) (fault : LineFault) (next : ℕ → Result (List ℕ) TextFault) → placed_behind old said ≡ Err fault → with_front old (then_entries m said next) ≡ Err (fault_on m fault)
fault_then old (Ok q) m fault next e = absurd (cc)
fault_then old (Err f) m fault next e = let same : f ≡ fault = cc in ap (λ (x : LineFault). Err (fault_on m x)) same

gives_fault : (said : Result (List ℕ) TextFault) (new : List ℕ) (e : TextError) (f : TextFault) → e ≡ errors.Text f → said ≡ Err f → GivesText said new (Err e)
gives_fault said new e f is h = rw is h

-- a text that ends without `end`
pub missing_gives : (epoch : Option ℕ) (cs : List Command) (l : Layout) (place n : ℕ) (lines : List Numbered) (old new : List ℕ) (e : TextError) → lines ≡ [] → e ≡ errors.Text (fault_on n faults.End) → GivesText (with_front old (entries_said epoch cs l place n lines)) new (Err e)
missing_gives epoch cs l place n lines old new e none is = gives_fault _ new e (fault_on n faults.End) is (ap (with_front old) (entries_nil epoch cs l place n lines none))

-- the line `end`
pub end_gives : (epoch : Option ℕ) (cs : List Command) (l : Layout) (place n m : ℕ) (ws behind : List (List ℕ)) (lines more : List Numbered) (old new : List ℕ) (r : Result (Unit {0}) TextError) → lines ≡ record { number = m; words = ws } ∷ more → is_end ws ≡ true → behind ≡ behind_first ws → GivesText (with_front old (ended (left_out l place) m behind more)) new r → GivesText (with_front old (entries_said epoch cs l place n lines)) new r
end_gives epoch cs l place n m ws behind lines more old new r e end same given = rw (entries_end epoch cs l place n m ws lines more e end, ← same) given

-- an entry, and those behind it
pub then_gives : (epoch : Option ℕ) (cs : List Command) (l : Layout) (place n m k : ℕ) (ws : List (List ℕ)) (lines more : List Numbered) (old mid new : List ℕ) (r : Result (Unit {0}) TextError) → lines ≡ record { number = m; words = ws } ∷ more → is_end ws ≡ false → placed_behind old (entry_said epoch cs l place ws) ≡ Ok (record { number = k; bytes = mid }) → GivesText (with_front mid (entries_said epoch cs l k (m + 1) more)) new r → GivesText (with_front old (entries_said epoch cs l place n lines)) new r
then_gives epoch cs l place n m k ws lines more old mid new r e end said given =
    rw (ap (with_front old) (entries_line epoch cs l place n m ws lines more e end) ∙ placed_then old mid (entry_said epoch cs l place ws) m k (λ j. entries_said epoch cs l j (m + 1) more) said) given

-- a line that is no entry
pub refused_gives : (epoch : Option ℕ) (cs : List Command) (l : Layout) (place n m : ℕ) (ws : List (List ℕ)) (lines more : List Numbered) (old new : List ℕ) (e : LineError) → lines ≡ record { number = m; words = ws } ∷ more → is_end ws ≡ false → GivesEntry (placed_behind old (entry_said epoch cs l place ws)) new (Err e) → GivesText (with_front old (entries_said epoch cs l place n lines)) new (Err (error_on m e))
refused_gives epoch cs l place n m ws lines more old new (line_errors.Memory e) here end given = tt
refused_gives epoch cs l place n m ws lines more old new (line_errors.Fault fault) here end said =
    ap (with_front old) (entries_line epoch cs l place n m ws lines more here end) ∙ fault_then old (entry_said epoch cs l place ws) m fault (λ j. entries_said epoch cs l j (m + 1) more) said
