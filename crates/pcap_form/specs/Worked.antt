-- A capture's header, and the record of a packet.
use Rattle.std.specs.Prelude.{ℕ, List, [], ◌∷◌}
use Rattle.pcap_form.specs.Captures.{capture_header, stamped}

abbrev pub capture : List ℕ
capture = capture_header

-- the peek packet of docs/SCENARIO.md, at another time
abbrev pub peek_record : List ℕ
peek_record = stamped (record {
  seconds = 0x12345678;
  packet = 0x08 ∷ 0x8A ∷ 0xC0 ∷ 0 ∷ 0 ∷ 0x0E ∷ 0 ∷ 0 ∷ 3 ∷ 0xEA ∷ 0 ∷ 0 ∷ 8 ∷ 0 ∷ 0 ∷ 0 ∷ 0x10 ∷ 0x80 ∷ 0 ∷ 0 ∷ 0x5A ∷ [];
})
