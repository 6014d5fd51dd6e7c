-- What a scenario does in a frame, in lines that stand among the sentences of the log.
use Rattle.std.specs.Prelude.{ℕ, ◌-◌, ◌==◌, if◌then◌else◌, List, [], ◌∷◌, ◌++◌, slice_get, codes, decimal, Option, Some, None, option_map}
use Rattle.std.specs.List.{flat_map}
use Rattle.packet_forms.specs.Hex.{hex}
use Rattle.packet_forms.specs.Numbers.{be32_bytes}
use Rattle.packet_forms.specs.Packets.{is_command}
use Rattle.scenario.specs.declared.frame.Upset.{Upset}
use Rattle.scenario.specs.FrameLists.{Frame}
use Rattle.log_words.specs.declared.vocabulary.Vocabulary.{Vocabulary}
use Rattle.log_words.specs.Sentences.{time_words, packet_words}
use Rattle.input_words.specs.declared.inputs.FrameTime.{FrameTime}
use Rattle.input_words.specs.declared.inputs.GivenFile.{GivenFile}

-- a line: when, as a sentence of the log has it, the mark `>` that none of these has, and what the scenario does
abbrev pub input_line : FrameTime → List ℕ → List ℕ
input_line t words = time_words t.epoch t.frame ++ codes ": > " ++ words ++ 10 ∷ []

-- a byte of memory is set, whatever it was
abbrev pub upset_words : Upset → List ℕ
upset_words u = codes "an upset sets the byte at 0x" ++ hex (be32_bytes u.at) ++ codes " to 0x" ++ hex (u.value ∷ [])

-- the words of the FILE of a number, counted from 1
abbrev pub file_of : List GivenFile → ℕ → Option (List ℕ)
file_of files n = if n == 0 then None else option_map (λ file. file.words.items) (slice_get files (n - 1))

abbrev pub file_words : Option (List ℕ) → List ℕ
file_words (Some words) = codes ": " ++ words
file_words None = codes ", and there is no such file"

-- a FILE of the rehearsal: its line, and the lines behind it
abbrev pub numbered_line : ℕ → List ℕ → List ℕ
numbered_line n words = codes "> file " ++ decimal n ++ codes ": " ++ words ++ 10 ∷ []

abbrev pub file_line : GivenFile → List ℕ
file_line file = numbered_line file.number file.words.items ++ file.lines.items

abbrev pub none_told : List GivenFile → List ℕ
none_told [] = codes "> no files" ++ 10 ∷ []
none_told (file ∷ files) = []

-- the FILEs of a rehearsal, a line each, or that there are none
unfoldable pub files_told : List GivenFile → List ℕ
files_told files = flat_map file_line files ++ none_told files

-- the table of a FILE is to become active
abbrev pub activation_words : ℕ → Option (List ℕ) → List ℕ
activation_words n file = codes "file " ++ decimal n ++ codes " is to become active" ++ file_words file

-- a packet is sent: a command, as the ground sends it, or another, as an event of an application that the bench doesn't have
abbrev pub packet_sent : Vocabulary → List ℕ → List ℕ
packet_sent v p = (if is_command p then codes "ground sends " else codes "the scenario sends ") ++ packet_words v p

-- what a scenario does in a frame but for its counters and holds, each in its lines' order: upsets, activations, and what it sends
unfoldable pub inputs_told : Vocabulary → List GivenFile → FrameTime → Frame → List ℕ
inputs_told v files t f =
    flat_map (λ u. input_line t (upset_words u)) f.upsets ++ flat_map (λ n. input_line t (activation_words n (file_of files n))) f.activations
    ++ flat_map (λ p. input_line t (packet_sent v p)) f.sends
