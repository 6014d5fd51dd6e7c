use Rattle.std.proofs.Common.{ℕ, ◌+◌, ◌-◌, drop, List, Option, Some, None, refl}
use Rattle.std.specs.Prelude.{◌==◌, ◌||◌, not, nat_eq, nat_lt, Bool, codes, slice_index, is_none, is_some, ◌/◌, ◌%◌, length}
use Rattle.packet_forms.specs.Crc.{crc_of}
use Rattle.packet_forms.specs.Numbers.{be16_at, be32_at}
use Rattle.table_files.specs.Files.{nth}
use Rattle.memory_window.specs.Access.{read_in, bytes_in, bytes_of, unless_guarded, is_guarded}
use Rattle.memory_window.specs.Memory.{Area, Memory, home}
use Rattle.memory_window.specs.Operations.{is_size}
use Rattle.memory_window.specs.Regions.{allows, unit_of}
use Rattle.events.specs.Events.{event_row}
use Rattle.events.specs.Refusals.{reason_of, reason_row}
use Rattle.events.specs.Tables.{event_table, hs_events, mm_events, md_events, cs_events, sc_events, lc_events, table_events, refusal_table, mm_refusals, md_refusals, cs_refusals, sc_refusals, lc_refusals}
use Rattle.hs_monitors.specs.Instructions.{instruction_of as hs_instruction}
use Rattle.hs_monitors.specs.Messages.{hs_codes}
use Rattle.hs_monitors.specs.Verdicts.{hs_protocol}
use Rattle.mm_core.specs.Instructions.{instruction_of as mm_instruction, is_fill_len, is_dump_len}
use Rattle.mm_core.specs.Reading.{value_at, range_at, admission_of, protection_of}
use Rattle.mm_core.specs.Messages.{mm_codes}
use Rattle.mm_core.specs.Verdicts.{access_refusal, file_refusal, mm_protocol, number_of as mm_number}
use Rattle.md_dwell.specs.Instructions.{instruction_of as md_instruction, jammed_entry}
use Rattle.md_dwell.specs.Tables.{is_length}
use Rattle.md_dwell.specs.Messages.{md_codes}
use Rattle.md_dwell.specs.Verdicts.{mask_refusal, jam_refusal, is_readable, md_protocol, number_of as md_number}
use Rattle.md_dwell.specs.declared.tables.DwellEntry.{DwellEntry}
use Rattle.cs_slices.specs.Instructions.{instruction_of as cs_instruction, entry_place}
use Rattle.cs_slices.specs.Messages.{cs_codes}
use Rattle.cs_slices.specs.Tables.{TablePair, entry_in}
use Rattle.cs_slices.specs.Verdicts.{table_refusal, entry_refusal, cs_protocol, number_of as cs_number}
use Rattle.sc_sequences.specs.Instructions.{instruction_of as sc_instruction}
use Rattle.sc_sequences.specs.Messages.{sc_codes}
use Rattle.sc_sequences.specs.Sequences.{Sequence, ats_place, rts_place, running_ats, is_loaded, is_running, at_place, has_some, from_time, other_ats}
use Rattle.sc_sequences.specs.Orders.{after_orders}
use Rattle.sc_sequences.specs.Verdicts.{start_ats_refusal, start_rts_refusal, number_refusal, enable_refusal, switch_refusal, jump_refusal, sc_protocol, number_of as sc_number}
use Rattle.lc_watch.specs.Instructions.{instruction_of as lc_instruction}
use Rattle.lc_watch.specs.Actionpoints.{is_used, act_at}
use Rattle.lc_watch.specs.Messages.{lc_codes}
use Rattle.lc_watch.specs.Verdicts.{point_refusal, lc_protocol, number_of as lc_number}
use Rattle.lc_watch.specs.declared.actionpoints.ActRow.{ActRow}
use Rattle.telemetry_making.specs.Told.{HasEvent, HasRefusal, HasOwn}
use Rattle.telemetry_making.proofs.AnswerLemmas.{answered, either}
use Rattle.telemetry_making.proofs.event_making.answers_are_told.Goals as goal

-- ---- Memory Manager

mm_read : (code size at : ℕ) → HasEvent (codes "MM") (16 + code) 2 → HasRefusal (codes "MM") code 4 → HasRefusal (codes "MM") code 5 → HasRefusal (codes "MM") code 6 → (o : Option Area) → HasOwn (codes "MM") mm_number code (access_refusal (read_in size at o))
mm_read code size at h outside unaligned wrong None = outside
mm_read code size at h outside unaligned wrong (Some r) =
    either (nat_eq (at % (size / 8)) 0) (λ a. either (allows r.region.kind size) (λ b. rw (a, b) h) (λ b. rw (a, b) wrong)) (λ a. rw a unaligned)

mm_poke : (size at : ℕ) (guarded : Bool) (o : Option Area) → HasOwn (codes "MM") mm_number 3 (access_refusal (unless_guarded (read_in size at o) guarded))
unfolding event_row event_table hs_events mm_events md_events cs_events sc_events lc_events table_events reason_of reason_row refusal_table mm_refusals md_refusals cs_refusals sc_refusals lc_refusals
mm_poke size at guarded None = refl
mm_poke size at guarded (Some r) =
    either (nat_eq (at % (size / 8)) 0)
    (λ a. either (allows r.region.kind size) (λ b. either guarded (λ c. rw (a, b, c) refl) (λ c. rw (a, b, c) refl)) (λ b. rw (a, b) refl))
    (λ a. rw a refl)

mm_dump : (at len : ℕ) (o : Option Area) → HasOwn (codes "MM") mm_number 13 (access_refusal (bytes_in at len o))
unfolding event_row event_table hs_events mm_events md_events cs_events sc_events lc_events table_events reason_of reason_row refusal_table mm_refusals md_refusals cs_refusals sc_refusals lc_refusals
mm_dump at len None = refl
mm_dump at len (Some r) =
    either (not (nat_eq (at % unit_of r.region.kind) 0) || not (nat_eq (len % unit_of r.region.kind) 0)) (λ a. rw a refl) (λ a. rw a refl)

mm_write : (code at len : ℕ) (guarded : Bool) → HasEvent (codes "MM") (16 + code) 2 → HasRefusal (codes "MM") code 4 → HasRefusal (codes "MM") code 5 → HasRefusal (codes "MM") code 7 → (o : Option Area) → HasOwn (codes "MM") mm_number code (access_refusal (unless_guarded (bytes_in at len o) guarded))
mm_write code at len guarded h outside unaligned protected None = outside
mm_write code at len guarded h outside unaligned protected (Some r) =
    either (not (nat_eq (at % unit_of r.region.kind) 0) || not (nat_eq (len % unit_of r.region.kind) 0)) (λ a. rw a unaligned)
    (λ a. either guarded (λ b. rw (a, b) protected) (λ b. rw (a, b) h))

mm_written : (code : ℕ) (image : Memory) (at len : ℕ) → HasEvent (codes "MM") (16 + code) 2 → HasRefusal (codes "MM") code 4 → HasRefusal (codes "MM") code 5 → HasRefusal (codes "MM") code 7 → HasOwn (codes "MM") mm_number code (access_refusal (unless_guarded (bytes_of image at len) (is_guarded image.areas image.guarded at len)))
mm_written code image at len h outside unaligned protected =
    mm_write code at len (is_guarded image.areas image.guarded at len) h outside unaligned protected (home image.areas at len)

mm_file : (image : Memory) (n : ℕ) (o : Option (ℕ × List ℕ)) → HasOwn (codes "MM") mm_number 5 (file_refusal image n o)
unfolding event_row event_table hs_events mm_events md_events cs_events sc_events lc_events table_events reason_of reason_row refusal_table mm_refusals md_refusals cs_refusals sc_refusals lc_refusals admission_of
mm_file image n None = refl
mm_file image n (Some load) = mm_written 5 image load.0 (length load.1) refl refl refl refl

-- ---- Memory Dwell

md_mask : (code mask : ℕ) → HasEvent (codes "MD") (16 + code) 2 → HasRefusal (codes "MD") code 4 → HasOwn (codes "MD") md_number code (mask_refusal mask)
unfolding event_row event_table hs_events mm_events md_events cs_events sc_events lc_events table_events reason_of reason_row refusal_table mm_refusals md_refusals cs_refusals sc_refusals lc_refusals
md_mask code mask h table = either ((mask == 0) || nat_lt 15 mask) (λ e. rw e table) (λ e. rw e h)

md_jam : (image : Memory) (table number : ℕ) (e : DwellEntry) → HasOwn (codes "MD") md_number 4 (jam_refusal image table number e)
unfolding event_row event_table hs_events mm_events md_events cs_events sc_events lc_events table_events reason_of reason_row refusal_table mm_refusals md_refusals cs_refusals sc_refusals lc_refusals
md_jam image table number e =
    either ((table == 0) || nat_lt 4 table) (λ a. rw a refl) (λ a. either ((number == 0) || nat_lt 25 number) (λ b. rw (a, b) refl)
    (λ b. either (is_length e.len) (λ d. either (is_readable image e) (λ f. rw (a, b, d, f) refl) (λ f. rw (a, b, d, f) refl)) (λ d. rw (a, b, d) refl)))

-- ---- Checksum

cs_table : (code table : ℕ) → HasEvent (codes "CS") (16 + code) 2 → HasRefusal (codes "CS") code 4 → HasOwn (codes "CS") cs_number code (table_refusal table)
unfolding event_row event_table hs_events mm_events md_events cs_events sc_events lc_events table_events reason_of reason_row refusal_table mm_refusals md_refusals cs_refusals sc_refusals lc_refusals
cs_table code table h missing = either ((table == 1) || (table == 2)) (λ e. rw e h) (λ e. rw e missing)

cs_entry : (code : ℕ) (tables : TablePair) (table number : ℕ) → HasEvent (codes "CS") (16 + code) 2 → HasRefusal (codes "CS") code 4 → HasRefusal (codes "CS") code 5 → HasRefusal (codes "CS") code 6 → HasOwn (codes "CS") cs_number code (entry_refusal tables table number)
unfolding event_row event_table hs_events mm_events md_events cs_events sc_events lc_events table_events reason_of reason_row refusal_table mm_refusals md_refusals cs_refusals sc_refusals lc_refusals
cs_entry code tables table number h missing entry empty =
    either ((table == 1) || (table == 2))
    (λ a. either ((number == 0) || nat_lt 16 number) (λ b. rw (a, b) entry)
    (λ b. either ((entry_in tables (entry_place table number)).state == 0) (λ d. rw (a, b, d) empty) (λ d. rw (a, b, d) h)))
    (λ a. rw a missing)

-- ---- Stored Command

sc_start_ats : (now : ℕ) (all : List Sequence) (o : Option ℕ) → HasOwn (codes "SC") sc_number 2 (start_ats_refusal now all o)
unfolding event_row event_table hs_events mm_events md_events cs_events sc_events lc_events table_events reason_of reason_row refusal_table mm_refusals md_refusals cs_refusals sc_refusals lc_refusals
sc_start_ats now all None = refl
sc_start_ats now all (Some place) =
    either (is_loaded (at_place all place))
    (λ a. either (is_some (running_ats all)) (λ b. rw (a, b) refl)
    (λ b. either (has_some (from_time now (at_place all place).loaded)) (λ d. rw (a, b, d) refl) (λ d. rw (a, b, d) refl)))
    (λ a. rw a refl)

sc_start_rts : (all : List Sequence) (o : Option ℕ) → HasOwn (codes "SC") sc_number 4 (start_rts_refusal all o)
unfolding event_row event_table hs_events mm_events md_events cs_events sc_events lc_events table_events reason_of reason_row refusal_table mm_refusals md_refusals cs_refusals sc_refusals lc_refusals
sc_start_rts all None = refl
sc_start_rts all (Some place) =
    either (is_loaded (at_place all place))
    (λ a. either (at_place all place).enabled (λ b. either (is_running (at_place all place)) (λ d. rw (a, b, d) refl) (λ d. rw (a, b, d) refl))
    (λ b. rw (a, b) refl))
    (λ a. rw a refl)

sc_number_told : (code : ℕ) (o : Option ℕ) → HasEvent (codes "SC") (16 + code) 2 → HasRefusal (codes "SC") code 4 → HasOwn (codes "SC") sc_number code (number_refusal o)
unfolding event_row event_table hs_events mm_events md_events cs_events sc_events lc_events table_events reason_of reason_row refusal_table mm_refusals md_refusals cs_refusals sc_refusals lc_refusals
sc_number_told code None h missing = missing
sc_number_told code (Some place) h missing = h

sc_enable : (all : List Sequence) (o : Option ℕ) → HasOwn (codes "SC") sc_number 7 (enable_refusal all o)
unfolding event_row event_table hs_events mm_events md_events cs_events sc_events lc_events table_events reason_of reason_row refusal_table mm_refusals md_refusals cs_refusals sc_refusals lc_refusals
sc_enable all None = refl
sc_enable all (Some place) = either (is_loaded (at_place all place)) (λ a. rw a refl) (λ a. rw a refl)

sc_switch : (now : ℕ) (all : List Sequence) (o : Option ℕ) → HasOwn (codes "SC") sc_number 8 (switch_refusal now all o)
unfolding event_row event_table hs_events mm_events md_events cs_events sc_events lc_events table_events reason_of reason_row refusal_table mm_refusals md_refusals cs_refusals sc_refusals lc_refusals
sc_switch now all None = refl
sc_switch now all (Some place) =
    either (is_loaded (at_place all (other_ats place)))
    (λ a. either (has_some (from_time now (at_place all (other_ats place)).loaded)) (λ b. rw (a, b) refl) (λ b. rw (a, b) refl))
    (λ a. rw a refl)

sc_jump : (time : ℕ) (all : List Sequence) (o : Option ℕ) → HasOwn (codes "SC") sc_number 9 (jump_refusal time all o)
unfolding event_row event_table hs_events mm_events md_events cs_events sc_events lc_events table_events reason_of reason_row refusal_table mm_refusals md_refusals cs_refusals sc_refusals lc_refusals
sc_jump time all None = refl
sc_jump time all (Some place) = either (has_some (from_time time (at_place all place).left)) (λ a. rw a refl) (λ a. rw a refl)

-- ---- Limit Checker

lc_point : (code : ℕ) (actions : List ActRow) (number : ℕ) → HasEvent (codes "LC") (16 + code) 2 → HasRefusal (codes "LC") code 4 → HasRefusal (codes "LC") code 5 → HasOwn (codes "LC") lc_number code (point_refusal actions number)
unfolding event_row event_table hs_events mm_events md_events cs_events sc_events lc_events table_events reason_of reason_row refusal_table mm_refusals md_refusals cs_refusals sc_refusals lc_refusals
lc_point code actions number h missing unused =
    either ((number == 0) || nat_lt 16 number) (λ a. rw a missing)
    (λ a. either (is_used (act_at actions (number - 1))) (λ b. rw (a, b) h) (λ b. rw (a, b) unused))

-- ---- the laws

pub returns-clause-hs : goal.returns-clause-hs
unfolding event_row event_table hs_events mm_events md_events cs_events sc_events lc_events table_events reason_of reason_row refusal_table mm_refusals md_refusals cs_refusals sc_refusals lc_refusals hs_codes hs_instruction
returns-clause-hs c = answered hs_protocol (codes "HS") (λ code. refl) (λ code. refl) (λ code. refl)
    ((λ b os p. refl), ((λ b os p. refl), ((λ b os p. refl), ((λ b os p. refl), ((λ b os p. refl), ((λ b os p. refl), ((λ b os p. refl), ((λ b os p. refl), tt))))))))

pub returns-clause-mm : goal.returns-clause-mm
unfolding event_row event_table hs_events mm_events md_events cs_events sc_events lc_events table_events reason_of reason_row refusal_table mm_refusals md_refusals cs_refusals sc_refusals lc_refusals mm_codes mm_instruction value_at range_at admission_of
returns-clause-mm c = answered mm_protocol (codes "MM") (λ code. refl) (λ code. refl) (λ code. refl) (
  (λ b os p. refl),
  (
    (λ b os p. refl),
    (
      (λ b os p. either (is_size (slice_index p 0)) (λ e. rw e (mm_read 2 (slice_index p 0) (be32_at p 1) refl refl refl refl (home b.image.areas (be32_at p 1) (slice_index p 0 / 8)))) (λ e. rw e refl)),
      (
        (λ b os p. either (is_size (slice_index p 0)) (λ e. rw e (mm_poke (slice_index p 0) (be32_at p 1) (is_guarded b.image.areas b.image.guarded (be32_at p 1) (slice_index p 0 / 8)) (home b.image.areas (be32_at p 1) (slice_index p 0 / 8)))) (λ e. rw e refl)),
        (
          (λ b os p. either (crc_of 0 (drop 6 p) == be16_at p 4) (λ e. rw e (mm_written 4 b.image (be32_at p 0) (length (drop 6 p)) refl refl refl refl)) (λ e. rw e refl)),
          (
            (λ b os p. mm_file b.image (be16_at p 0) (nth b.loads (be16_at p 0))),
            (
              (λ b os p. either (is_fill_len (be32_at p 4)) (λ e. rw e (mm_written 8 b.image (be32_at p 0) (be32_at p 4) refl refl refl refl)) (λ e. rw e refl)),
              (
                (λ b os p. either (is_none (protection_of b.image (slice_index p 0))) (λ e. rw e refl) (λ e. rw e refl)),
                (
                  (λ b os p. either (is_none (protection_of b.image (slice_index p 0))) (λ e. rw e refl) (λ e. rw e refl)),
                  ((λ b os p. either (is_dump_len (be32_at p 4)) (λ e. rw e (mm_dump (be32_at p 0) (be32_at p 4) (home b.image.areas (be32_at p 0) (be32_at p 4)))) (λ e. rw e refl)), tt),
                ),
              ),
            ),
          ),
        ),
      ),
    ),
  ),
)

pub returns-clause-md : goal.returns-clause-md
unfolding event_row event_table hs_events mm_events md_events cs_events sc_events lc_events table_events reason_of reason_row refusal_table mm_refusals md_refusals cs_refusals sc_refusals lc_refusals md_codes md_instruction
returns-clause-md c = answered md_protocol (codes "MD") (λ code. refl) (λ code. refl) (λ code. refl)
    ((λ b os p. refl), ((λ b os p. refl), ((λ b os p. md_mask 2 (be16_at p 0) refl refl), ((λ b os p. md_mask 3 (be16_at p 0) refl refl), ((λ b os p. md_jam b (be16_at p 0) (be16_at p 2) (jammed_entry p)), tt)))))

pub returns-clause-cs : goal.returns-clause-cs
unfolding event_row event_table hs_events mm_events md_events cs_events sc_events lc_events table_events reason_of reason_row refusal_table mm_refusals md_refusals cs_refusals sc_refusals lc_refusals cs_codes cs_instruction
returns-clause-cs c = answered cs_protocol (codes "CS") (λ code. refl) (λ code. refl) (λ code. refl) (
  (λ b os p. refl),
  (
    (λ b os p. refl),
    (
      (λ b os p. refl),
      (
        (λ b os p. refl),
        (
          (λ b os p. cs_table 4 (be16_at p 0) refl refl),
          (
            (λ b os p. cs_table 5 (be16_at p 0) refl refl),
            ((λ b os p. cs_entry 6 b (be16_at p 0) (be16_at p 2) refl refl refl refl), ((λ b os p. cs_entry 7 b (be16_at p 0) (be16_at p 2) refl refl refl refl), ((λ b os p. cs_entry 8 b (be16_at p 0) (be16_at p 2) refl refl refl refl), tt))),
          ),
        ),
      ),
    ),
  ),
)

pub returns-clause-sc : goal.returns-clause-sc
unfolding event_row event_table hs_events mm_events md_events cs_events sc_events lc_events table_events reason_of reason_row refusal_table mm_refusals md_refusals cs_refusals sc_refusals lc_refusals sc_codes sc_instruction
returns-clause-sc c = answered sc_protocol (codes "SC") (λ code. refl) (λ code. refl) (λ code. refl) (
  (λ b os p. refl),
  (
    (λ b os p. refl),
    (
      (λ b os p. sc_start_ats b.time (after_orders b.time b.all os) (ats_place (be16_at p 0))),
      (
        (λ b os p. refl),
        (
          (λ b os p. sc_start_rts (after_orders b.time b.all os) (rts_place (be16_at p 0))),
          (
            (λ b os p. sc_number_told 5 (rts_place (be16_at p 0)) refl refl),
            (
              (λ b os p. sc_number_told 6 (rts_place (be16_at p 0)) refl refl),
              (
                (λ b os p. sc_enable (after_orders b.time b.all os) (rts_place (be16_at p 0))),
                (
                  (λ b os p. sc_switch b.time (after_orders b.time b.all os) (running_ats (after_orders b.time b.all os))),
                  ((λ b os p. sc_jump (be32_at p 0) (after_orders b.time b.all os) (running_ats (after_orders b.time b.all os))), tt),
                ),
              ),
            ),
          ),
        ),
      ),
    ),
  ),
)

pub returns-clause-lc : goal.returns-clause-lc
unfolding event_row event_table hs_events mm_events md_events cs_events sc_events lc_events table_events reason_of reason_row refusal_table mm_refusals md_refusals cs_refusals sc_refusals lc_refusals lc_codes lc_instruction
returns-clause-lc c = answered lc_protocol (codes "LC") (λ code. refl) (λ code. refl) (λ code. refl)
    ((λ b os p. refl), ((λ b os p. refl), ((λ b os p. lc_point 2 b (be16_at p 0) refl refl refl), ((λ b os p. lc_point 3 b (be16_at p 0) refl refl refl), tt))))
