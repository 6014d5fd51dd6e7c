-- The events of the applications and of activations, and why each command may be refused, as docs/COMMANDS.md and docs/SCENARIO.md
-- list them.
use Rattle.std.specs.Prelude.{ℕ, List, [], ◌∷◌, ◌++◌, codes}
use Rattle.row_forms.specs.Worked.{text_at}
use Rattle.events.specs.declared.event.Event.{Event}
use Rattle.events.specs.declared.event.EventKind.{EventKind}
use Rattle.events.specs.declared.event.EventKind.TheVariants.{Information, Error}
use Rattle.events.specs.declared.refusal.Refusal.{Refusal}

-- an event or a refusal whose texts lie anywhere, as one whose texts lie at one place
abbrev pub row : List ℕ → ℕ → EventKind → List ℕ → List ℕ → Event
row application number kind name sentence = record { application = text_at application; number = number; kind = kind; name = text_at name; sentence = text_at sentence }

abbrev pub placed_event : Event → Event
placed_event e = row e.application.now e.number e.kind e.name.now e.sentence.now

abbrev pub refusal : List ℕ → ℕ → ℕ → List ℕ → Refusal
refusal application code number reason = record { application = text_at application; code = code; number = number; reason = text_at reason }

abbrev pub placed_refusal : Refusal → Refusal
placed_refusal r = refusal r.application.now r.code r.number r.reason.now

-- the events of Health and Safety
unfoldable pub hs_events : List Event
hs_events =
    row (codes "HS") 16 Information (codes "no_op") (codes "command no_op was accepted")
    ∷ row (codes "HS") 17 Information (codes "reset_counts") (codes "command reset_counts was accepted")
    ∷ row (codes "HS") 18 Information (codes "apps_on") (codes "command apps_on was accepted")
    ∷ row (codes "HS") 19 Information (codes "apps_off") (codes "command apps_off was accepted")
    ∷ row (codes "HS") 20 Information (codes "events_on") (codes "command events_on was accepted")
    ∷ row (codes "HS") 21 Information (codes "events_off") (codes "command events_off was accepted")
    ∷ row (codes "HS") 24 Information (codes "clear_resets") (codes "command clear_resets was accepted")
    ∷ row (codes "HS") 25 Information (codes "max_resets") (codes "command max_resets was accepted")
    ∷ row (codes "HS") 1 Error (codes "wrong_checksum") (codes "a command was refused: its checksum is wrong")
    ∷ row (codes "HS") 2 Error (codes "no_such_code") (codes "a command was refused: there is no such code")
    ∷ row (codes "HS") 3 Error (codes "wrong_length") (codes "a command was refused: its payload has another length")
    ∷ row (codes "HS") 101 Error (codes "app_reset") (codes "an application monitor acted, and watches no more: a processor reset is asked for")
    ∷ row (codes "HS") 102 Error (codes "app_restart") (codes "an application monitor acted, and watches no more: a restart of the application is asked for")
    ∷ row (codes "HS") 103 Error (codes "app_told") (codes "an application monitor acted, and watches no more: it is told, and nothing else")
    ∷ row (codes "HS") 104 Error (codes "app_message") (codes "an application monitor acted, and watches no more: the packet of a message action was sent")
    ∷ row (codes "HS") 105 Error (codes "app_no_reset") (codes "an application monitor acted, and watches no more: as many resets were made as may be, and none is asked for")
    ∷ row (codes "HS") 111 Error (codes "event_reset") (codes "an event monitor acted: a processor reset is asked for")
    ∷ row (codes "HS") 112 Error (codes "event_restart") (codes "an event monitor acted: a restart of the application is asked for")
    ∷ row (codes "HS") 113 Error (codes "event_delete") (codes "an event monitor acted: the application is to be deleted")
    ∷ row (codes "HS") 114 Error (codes "event_message") (codes "an event monitor acted: the packet of a message action was sent")
    ∷ row (codes "HS") 115 Error (codes "event_no_reset") (codes "an event monitor acted: as many resets were made as may be, and none is asked for")
    ∷ []

-- the events of Memory Manager
unfoldable pub mm_events : List Event
mm_events =
    row (codes "MM") 16 Information (codes "no_op") (codes "command no_op was accepted")
    ∷ row (codes "MM") 17 Information (codes "reset_counts") (codes "command reset_counts was accepted")
    ∷ row (codes "MM") 18 Information (codes "peek") (codes "command peek was accepted")
    ∷ row (codes "MM") 19 Information (codes "poke") (codes "command poke was accepted")
    ∷ row (codes "MM") 20 Information (codes "load") (codes "command load was accepted")
    ∷ row (codes "MM") 21 Information (codes "load_file") (codes "command load_file was accepted")
    ∷ row (codes "MM") 24 Information (codes "fill") (codes "command fill was accepted")
    ∷ row (codes "MM") 27 Information (codes "eeprom_enable") (codes "command eeprom_enable was accepted")
    ∷ row (codes "MM") 28 Information (codes "eeprom_disable") (codes "command eeprom_disable was accepted")
    ∷ row (codes "MM") 29 Information (codes "dump") (codes "command dump was accepted")
    ∷ row (codes "MM") 1 Error (codes "wrong_checksum") (codes "a command was refused: its checksum is wrong")
    ∷ row (codes "MM") 2 Error (codes "no_such_code") (codes "a command was refused: there is no such code")
    ∷ row (codes "MM") 3 Error (codes "wrong_length") (codes "a command was refused: its payload has another length")
    ∷ row (codes "MM") 4 Error (codes "outside") (codes "a command was refused: the bytes lie in no region, or not all in one")
    ∷ row (codes "MM") 5 Error (codes "unaligned") (codes "a command was refused: the address or the length isn't aligned")
    ∷ row (codes "MM") 6 Error (codes "wrong_width") (codes "a command was refused: the region takes another width alone")
    ∷ row (codes "MM") 7 Error (codes "protected") (codes "a command was refused: the EEPROM region is protected")
    ∷ row (codes "MM") 8 Error (codes "no_width") (codes "a command was refused: the width isn't 8, 16 or 32")
    ∷ row (codes "MM") 9 Error (codes "no_length") (codes "a command was refused: the length is 0 or too large")
    ∷ row (codes "MM") 10 Error (codes "wrong_crc") (codes "a command was refused: the CRC isn't that of the bytes")
    ∷ row (codes "MM") 11 Error (codes "no_load_file") (codes "a command was refused: there is no load file of this number")
    ∷ row (codes "MM") 12 Error (codes "no_region") (codes "a command was refused: the number isn't that of an EEPROM region")
    ∷ []

-- the events of Memory Dwell
unfoldable pub md_events : List Event
md_events =
    row (codes "MD") 16 Information (codes "no_op") (codes "command no_op was accepted")
    ∷ row (codes "MD") 17 Information (codes "reset_counts") (codes "command reset_counts was accepted")
    ∷ row (codes "MD") 18 Information (codes "start") (codes "command start was accepted")
    ∷ row (codes "MD") 19 Information (codes "stop") (codes "command stop was accepted")
    ∷ row (codes "MD") 20 Information (codes "jam") (codes "command jam was accepted")
    ∷ row (codes "MD") 1 Error (codes "wrong_checksum") (codes "a command was refused: its checksum is wrong")
    ∷ row (codes "MD") 2 Error (codes "no_such_code") (codes "a command was refused: there is no such code")
    ∷ row (codes "MD") 3 Error (codes "wrong_length") (codes "a command was refused: its payload has another length")
    ∷ row (codes "MD") 4 Error (codes "no_table") (codes "a command was refused: the mask is 0 or over 15, or there is no such table")
    ∷ row (codes "MD") 5 Error (codes "no_entry") (codes "a command was refused: the entry isn't 1 to 25")
    ∷ row (codes "MD") 6 Error (codes "no_length") (codes "a command was refused: the length isn't 0, 1, 2 or 4")
    ∷ row (codes "MD") 7 Error (codes "unreadable") (codes "a command was refused: memory doesn't give the read: it isn't in one region, isn't aligned, or has a size that the region doesn't take")
    ∷ []

-- the events of Checksum
unfoldable pub cs_events : List Event
cs_events =
    row (codes "CS") 16 Information (codes "no_op") (codes "command no_op was accepted")
    ∷ row (codes "CS") 17 Information (codes "reset_counts") (codes "command reset_counts was accepted")
    ∷ row (codes "CS") 18 Information (codes "on") (codes "command on was accepted")
    ∷ row (codes "CS") 19 Information (codes "off") (codes "command off was accepted")
    ∷ row (codes "CS") 20 Information (codes "table_on") (codes "command table_on was accepted")
    ∷ row (codes "CS") 21 Information (codes "table_off") (codes "command table_off was accepted")
    ∷ row (codes "CS") 22 Information (codes "entry_on") (codes "command entry_on was accepted")
    ∷ row (codes "CS") 23 Information (codes "entry_off") (codes "command entry_off was accepted")
    ∷ row (codes "CS") 24 Information (codes "report") (codes "command report was accepted")
    ∷ row (codes "CS") 1 Error (codes "wrong_checksum") (codes "a command was refused: its checksum is wrong")
    ∷ row (codes "CS") 2 Error (codes "no_such_code") (codes "a command was refused: there is no such code")
    ∷ row (codes "CS") 3 Error (codes "wrong_length") (codes "a command was refused: its payload has another length")
    ∷ row (codes "CS") 4 Error (codes "no_table") (codes "a command was refused: the table isn't 1 or 2")
    ∷ row (codes "CS") 5 Error (codes "no_entry") (codes "a command was refused: the entry isn't 1 to 16")
    ∷ row (codes "CS") 6 Error (codes "empty_entry") (codes "a command was refused: the entry's state in its file is 0")
    ∷ row (codes "CS") 101 Error (codes "miscompare") (codes "the bytes that were read have another CRC than the baseline")
    ∷ []

-- the events of Stored Command
unfoldable pub sc_events : List Event
sc_events =
    row (codes "SC") 16 Information (codes "no_op") (codes "command no_op was accepted")
    ∷ row (codes "SC") 17 Information (codes "reset_counts") (codes "command reset_counts was accepted")
    ∷ row (codes "SC") 18 Information (codes "start_ats") (codes "command start_ats was accepted")
    ∷ row (codes "SC") 19 Information (codes "stop_ats") (codes "command stop_ats was accepted")
    ∷ row (codes "SC") 20 Information (codes "start_rts") (codes "command start_rts was accepted")
    ∷ row (codes "SC") 21 Information (codes "stop_rts") (codes "command stop_rts was accepted")
    ∷ row (codes "SC") 22 Information (codes "disable_rts") (codes "command disable_rts was accepted")
    ∷ row (codes "SC") 23 Information (codes "enable_rts") (codes "command enable_rts was accepted")
    ∷ row (codes "SC") 24 Information (codes "switch_ats") (codes "command switch_ats was accepted")
    ∷ row (codes "SC") 25 Information (codes "jump_ats") (codes "command jump_ats was accepted")
    ∷ row (codes "SC") 1 Error (codes "wrong_checksum") (codes "a command was refused: its checksum is wrong")
    ∷ row (codes "SC") 2 Error (codes "no_such_code") (codes "a command was refused: there is no such code")
    ∷ row (codes "SC") 3 Error (codes "wrong_length") (codes "a command was refused: its payload has another length")
    ∷ row (codes "SC") 4 Error (codes "no_sequence") (codes "a command was refused: there is no sequence of this number")
    ∷ row (codes "SC") 5 Error (codes "not_loaded") (codes "a command was refused: the sequence isn't loaded")
    ∷ row (codes "SC") 6 Error (codes "running") (codes "a command was refused: the sequence runs, or an absolute one does")
    ∷ row (codes "SC") 7 Error (codes "none_remains") (codes "a command was refused: no command would remain")
    ∷ row (codes "SC") 8 Error (codes "none_runs") (codes "a command was refused: no absolute sequence runs")
    ∷ row (codes "SC") 9 Error (codes "disabled") (codes "a command was refused: the sequence is disabled")
    ∷ row (codes "SC") 101 Error (codes "wrong_in_ats") (codes "a command of the absolute sequence has a wrong checksum and was left out")
    ∷ row (codes "SC") 102 Error (codes "wrong_in_rts") (codes "a command of a relative sequence has a wrong checksum, and the sequence stopped")
    ∷ row (codes "SC") 103 Information (codes "ats_ended") (codes "the absolute sequence ended")
    ∷ row (codes "SC") 104 Information (codes "rts_ended") (codes "a relative sequence ended")
    ∷ []

-- the events of Limit Checker
unfoldable pub lc_events : List Event
lc_events =
    row (codes "LC") 16 Information (codes "no_op") (codes "command no_op was accepted")
    ∷ row (codes "LC") 17 Information (codes "reset_counts") (codes "command reset_counts was accepted")
    ∷ row (codes "LC") 18 Information (codes "set_active") (codes "command set_active was accepted")
    ∷ row (codes "LC") 19 Information (codes "set_passive") (codes "command set_passive was accepted")
    ∷ row (codes "LC") 1 Error (codes "wrong_checksum") (codes "a command was refused: its checksum is wrong")
    ∷ row (codes "LC") 2 Error (codes "no_such_code") (codes "a command was refused: there is no such code")
    ∷ row (codes "LC") 3 Error (codes "wrong_length") (codes "a command was refused: its payload has another length")
    ∷ row (codes "LC") 4 Error (codes "no_point") (codes "a command was refused: the number isn't 1 to 16")
    ∷ row (codes "LC") 5 Error (codes "unused_point") (codes "a command was refused: the actionpoint is unused")
    ∷ row (codes "LC") 101 Error (codes "fired") (codes "an actionpoint fired: it starts its relative sequence, and is passive from here on")
    ∷ []

-- the events of activations
unfoldable pub table_events : List Event
table_events =
    row (codes "TBL") 1 Information (codes "activated") (codes "the table of a file became active")
    ∷ row (codes "TBL") 2 Error (codes "not_activated") (codes "the file is no table that can become active")
    ∷ row (codes "TBL") 3 Error (codes "sequence_runs") (codes "the file's sequence runs, and its table didn't become active")
    ∷ []

-- all of them
unfoldable pub event_table : List Event
event_table = hs_events ++ mm_events ++ md_events ++ cs_events ++ sc_events ++ lc_events ++ table_events

-- why commands of Memory Manager may be refused
unfoldable pub mm_refusals : List Refusal
mm_refusals =
    refusal (codes "MM") 2 8 (codes "the width isn't 8, 16 or 32")
    ∷ refusal (codes "MM") 2 4 (codes "the bytes lie in no region, or not all in one")
    ∷ refusal (codes "MM") 2 5 (codes "the address isn't a multiple of the width")
    ∷ refusal (codes "MM") 2 6 (codes "the region takes another width alone")
    ∷ refusal (codes "MM") 3 8 (codes "the width isn't 8, 16 or 32")
    ∷ refusal (codes "MM") 3 4 (codes "the bytes lie in no region, or not all in one")
    ∷ refusal (codes "MM") 3 5 (codes "the address isn't a multiple of the width")
    ∷ refusal (codes "MM") 3 6 (codes "the region takes another width alone")
    ∷ refusal (codes "MM") 3 7 (codes "the EEPROM region is protected")
    ∷ refusal (codes "MM") 4 10 (codes "the CRC isn't that of the bytes")
    ∷ refusal (codes "MM") 4 4 (codes "the bytes lie in no region, or not all in one")
    ∷ refusal (codes "MM") 4 5 (codes "address or length isn't a multiple of what the region takes")
    ∷ refusal (codes "MM") 4 7 (codes "the EEPROM region is protected")
    ∷ refusal (codes "MM") 5 11 (codes "there is no load file of this number")
    ∷ refusal (codes "MM") 5 4 (codes "the bytes lie in no region, or not all in one")
    ∷ refusal (codes "MM") 5 5 (codes "address or length isn't a multiple of what the region takes")
    ∷ refusal (codes "MM") 5 7 (codes "the EEPROM region is protected")
    ∷ refusal (codes "MM") 8 9 (codes "the length is 0 or over 65536")
    ∷ refusal (codes "MM") 8 4 (codes "the bytes lie in no region, or not all in one")
    ∷ refusal (codes "MM") 8 5 (codes "address or length isn't a multiple of what the region takes")
    ∷ refusal (codes "MM") 8 7 (codes "the EEPROM region is protected")
    ∷ refusal (codes "MM") 11 12 (codes "the number isn't that of an EEPROM region")
    ∷ refusal (codes "MM") 12 12 (codes "the number isn't that of an EEPROM region")
    ∷ refusal (codes "MM") 13 9 (codes "the length is 0 or over 2048")
    ∷ refusal (codes "MM") 13 4 (codes "the bytes lie in no region, or not all in one")
    ∷ refusal (codes "MM") 13 5 (codes "address or length isn't a multiple of what the region takes")
    ∷ []

-- why commands of Memory Dwell may be refused
unfoldable pub md_refusals : List Refusal
md_refusals =
    refusal (codes "MD") 2 4 (codes "the mask is 0 or over 15")
    ∷ refusal (codes "MD") 3 4 (codes "the mask is 0 or over 15")
    ∷ refusal (codes "MD") 4 4 (codes "the table isn't 1 to 4")
    ∷ refusal (codes "MD") 4 5 (codes "the entry isn't 1 to 25")
    ∷ refusal (codes "MD") 4 6 (codes "the length isn't 0, 1, 2 or 4")
    ∷ refusal (codes "MD") 4 7 (codes "memory doesn't give the read: it isn't in one region, isn't aligned, or has a size that the region doesn't take")
    ∷ []

-- why commands of Checksum may be refused
unfoldable pub cs_refusals : List Refusal
cs_refusals =
    refusal (codes "CS") 4 4 (codes "the table isn't 1 or 2")
    ∷ refusal (codes "CS") 5 4 (codes "the table isn't 1 or 2")
    ∷ refusal (codes "CS") 6 4 (codes "the table isn't 1 or 2")
    ∷ refusal (codes "CS") 6 5 (codes "the entry isn't 1 to 16")
    ∷ refusal (codes "CS") 6 6 (codes "the entry's state in its file is 0")
    ∷ refusal (codes "CS") 7 4 (codes "the table isn't 1 or 2")
    ∷ refusal (codes "CS") 7 5 (codes "the entry isn't 1 to 16")
    ∷ refusal (codes "CS") 7 6 (codes "the entry's state in its file is 0")
    ∷ refusal (codes "CS") 8 4 (codes "the table isn't 1 or 2")
    ∷ refusal (codes "CS") 8 5 (codes "the entry isn't 1 to 16")
    ∷ refusal (codes "CS") 8 6 (codes "the entry's state in its file is 0")
    ∷ []

-- why commands of Stored Command may be refused
unfoldable pub sc_refusals : List Refusal
sc_refusals =
    refusal (codes "SC") 2 4 (codes "the number isn't 1 or 2")
    ∷ refusal (codes "SC") 2 5 (codes "the sequence isn't loaded")
    ∷ refusal (codes "SC") 2 6 (codes "an absolute sequence runs")
    ∷ refusal (codes "SC") 2 7 (codes "no command would remain")
    ∷ refusal (codes "SC") 4 4 (codes "the number isn't 1 to 64")
    ∷ refusal (codes "SC") 4 5 (codes "the sequence isn't loaded")
    ∷ refusal (codes "SC") 4 9 (codes "the sequence is disabled")
    ∷ refusal (codes "SC") 4 6 (codes "the sequence runs")
    ∷ refusal (codes "SC") 5 4 (codes "the number isn't 1 to 64")
    ∷ refusal (codes "SC") 6 4 (codes "the number isn't 1 to 64")
    ∷ refusal (codes "SC") 7 4 (codes "the number isn't 1 to 64")
    ∷ refusal (codes "SC") 7 5 (codes "the sequence isn't loaded")
    ∷ refusal (codes "SC") 8 8 (codes "no absolute sequence runs")
    ∷ refusal (codes "SC") 8 5 (codes "the other absolute sequence isn't loaded")
    ∷ refusal (codes "SC") 8 7 (codes "no command would remain")
    ∷ refusal (codes "SC") 9 8 (codes "no absolute sequence runs")
    ∷ refusal (codes "SC") 9 7 (codes "no command would remain")
    ∷ []

-- why commands of Limit Checker may be refused
unfoldable pub lc_refusals : List Refusal
lc_refusals =
    refusal (codes "LC") 2 4 (codes "the number isn't 1 to 16")
    ∷ refusal (codes "LC") 2 5 (codes "the actionpoint is unused")
    ∷ refusal (codes "LC") 3 4 (codes "the number isn't 1 to 16")
    ∷ refusal (codes "LC") 3 5 (codes "the actionpoint is unused")
    ∷ []

-- all of them
unfoldable pub refusal_table : List Refusal
refusal_table = mm_refusals ++ md_refusals ++ cs_refusals ++ sc_refusals ++ lc_refusals
