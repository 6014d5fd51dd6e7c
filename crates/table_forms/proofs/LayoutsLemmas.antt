-- Lemmas on the layouts of tables.
use Rattle.std.proofs.Common.{◌≡◌, ℕ, ◌*◌, true, arith, sym, ◌∙◌}
use Rattle.std.specs.Prelude.{◌==◌}
use Rattle.std.proofs.lemmas.Bool.Decides.{nat_tests}
use Rattle.row_forms.proofs.TextLemmas.{and_both}
use Rattle.table_files.specs.declared.kinds.TableKind.{TableKind}
use Rattle.table_files.specs.declared.kinds.TableKind.TheVariants.{AppMon, EventMon, ExeCount, MsgActs, Ats, Rts, Dwell, Eeprom, Memory, Wdt, Adt}
use Rattle.table_texts.specs.declared.layout.Layout.{Layout}
use Rattle.table_texts.specs.Entries.{is_layout}
use Rattle.table_texts.specs.Fronts.{is_front}
use Rattle.table_forms.specs.declared.layouts.Layouts.{Layouts}
use Rattle.table_forms.specs.Layouts.{form_of, has_bytes, is_open, are_layouts}
use Rattle.table_files.specs.Kinds.{fits_kind}
use Rattle.table_forms.specs.Payloads.{is_form, FitsForm}

pub record HasBytes (l : Layout) (n : ℕ) : Type 0 where
  pub layout : is_layout l ≡ true
  pub size : l.count * l.size ≡ n

bytes_are : (l : Layout) (n : ℕ) → has_bytes l n ≡ true → HasBytes l n
unfolding has_bytes
bytes_are l n e = let both = and_both (is_layout l) (l.count * l.size == n) e in record { layout = both.0; size = grind (arith, nat_tests, both) }

pub record AreLayouts (ls : Layouts) : Type 0 where
  pub apps : HasBytes ls.apps 768
  pub events : HasBytes ls.events 384
  pub counters : HasBytes ls.counters 704
  pub actions : HasBytes ls.actions 544
  pub dwells : HasBytes ls.dwells 200
  pub checksums : HasBytes ls.checksums 192
  pub watchpoints : HasBytes ls.watchpoints 512
  pub actionpoints : HasBytes ls.actionpoints 640
  pub absolute : is_front ls.absolute.now 6 ≡ true
  pub relative : is_front ls.relative.now 2 ≡ true
  pub head : is_open ls.head.now 4 ≡ true
  pub header : is_open ls.header.now 60 ≡ true

pub layouts_are : (ls : Layouts) → are_layouts ls ≡ true → AreLayouts ls
unfolding are_layouts
layouts_are ls e =
    let a = and_both _ (is_open ls.header.now 60) e in
    let b = and_both _ (is_open ls.head.now 4) a.0 in
    let c = and_both _ (is_front ls.relative.now 2) b.0 in
    let d = and_both _ (is_front ls.absolute.now 6) c.0 in
    let f = and_both _ (has_bytes ls.actionpoints 640) d.0 in
    let g = and_both _ (has_bytes ls.watchpoints 512) f.0 in
    let h = and_both _ (has_bytes ls.checksums 192) g.0 in
    let i = and_both _ (has_bytes ls.dwells 200) h.0 in
    let j = and_both _ (has_bytes ls.actions 544) i.0 in
    let k = and_both _ (has_bytes ls.counters 704) j.0 in
    let m = and_both (has_bytes ls.apps 768) (has_bytes ls.events 384) k.0 in
    record {
      apps = bytes_are ls.apps 768 m.0;
      events = bytes_are ls.events 384 m.1;
      counters = bytes_are ls.counters 704 k.1;
      actions = bytes_are ls.actions 544 j.1;
      dwells = bytes_are ls.dwells 200 i.1;
      checksums = bytes_are ls.checksums 192 h.1;
      watchpoints = bytes_are ls.watchpoints 512 g.1;
      actionpoints = bytes_are ls.actionpoints 640 f.1;
      absolute = d.1;
      relative = c.1;
      head = b.1;
      header = a.1;
    }

pub form_is : (ls : Layouts) (kind : TableKind) → AreLayouts ls → is_form (form_of ls kind) ≡ true
unfolding is_form
form_is ls AppMon are = are.apps.layout
form_is ls EventMon are = are.events.layout
form_is ls ExeCount are = are.counters.layout
form_is ls MsgActs are = are.actions.layout
form_is ls (Ats n) are = are.absolute
form_is ls (Rts n) are = are.relative
form_is ls (Dwell n) are = are.dwells.layout
form_is ls Eeprom are = are.checksums.layout
form_is ls Memory are = are.checksums.layout
form_is ls Wdt are = are.watchpoints.layout
form_is ls Adt are = are.actionpoints.layout

fits_entries : (l : Layout) (n size : ℕ) → HasBytes l n → (size == n) ≡ true → size ≡ l.count * l.size
fits_entries l n size has e = let same : size ≡ n = grind (arith, nat_tests) in same ∙ sym has.size

pub form_fits : (ls : Layouts) (kind : TableKind) (size : ℕ) → AreLayouts ls → fits_kind kind size ≡ true → FitsForm (form_of ls kind) size
form_fits ls AppMon size are e = fits_entries ls.apps 768 size are.apps e
form_fits ls EventMon size are e = fits_entries ls.events 384 size are.events e
form_fits ls ExeCount size are e = fits_entries ls.counters 704 size are.counters e
form_fits ls MsgActs size are e = fits_entries ls.actions 544 size are.actions e
form_fits ls (Ats n) size are e = tt
form_fits ls (Rts n) size are e = tt
form_fits ls (Dwell n) size are e = let same : size ≡ 204 = grind (arith, nat_tests) in let long = are.dwells.size in omega (arith, same, long)
form_fits ls Eeprom size are e = fits_entries ls.checksums 192 size are.checksums e
form_fits ls Memory size are e = fits_entries ls.checksums 192 size are.checksums e
form_fits ls Wdt size are e = fits_entries ls.watchpoints 512 size are.watchpoints e
form_fits ls Adt size are e = fits_entries ls.actionpoints 640 size are.actionpoints e
