-- Lemmas on what a scenario does in a frame.
use Rattle.std.proofs.Common.{◌≡◌, ℕ, List, ◌++◌, ap, ◌∙◌, append_assoc}
use Rattle.std.specs.List.{flat_map}
use Rattle.scenario.specs.declared.frame.Upset.{Upset}
use Rattle.scenario.specs.FrameLists.{Frame}
use Rattle.log_words.specs.declared.vocabulary.Vocabulary.{Vocabulary}
use Rattle.input_words.specs.declared.inputs.FrameTime.{FrameTime}
use Rattle.input_words.specs.declared.inputs.GivenFile.{GivenFile}
use Rattle.input_words.specs.Inputs.{input_line, upset_words, file_of, activation_words, packet_sent, inputs_told}

-- the lines of each kind, one behind the other
pub inputs_joined : (v : Vocabulary) (files : List GivenFile) (t : FrameTime) (f : Frame) (upsets : List Upset) (numbers : List ℕ) (packets : List (List ℕ)) (out one two three : List ℕ)
    → upsets ≡ f.upsets → numbers ≡ f.activations → packets ≡ f.sends
    → one ≡ out ++ flat_map (λ (u : Upset). input_line t (upset_words u)) upsets
    → two ≡ one ++ flat_map (λ (n : ℕ). input_line t (activation_words n (file_of files n))) numbers
    → three ≡ two ++ flat_map (λ (p : List ℕ). input_line t (packet_sent v p)) packets
    → three ≡ out ++ inputs_told v files t f
unfolding inputs_told
inputs_joined v files t f upsets numbers packets out one two three eu en ep first second third =
    let us : List ℕ = flat_map (λ (u : Upset). input_line t (upset_words u)) f.upsets in
    let ns : List ℕ = flat_map (λ (n : ℕ). input_line t (activation_words n (file_of files n))) f.activations in
    let ps : List ℕ = flat_map (λ (p : List ℕ). input_line t (packet_sent v p)) f.sends in
    let a : one ≡ out ++ us = first ∙ ap (λ (xs : List Upset). out ++ flat_map (λ (u : Upset). input_line t (upset_words u)) xs) eu in
    let b : two ≡ one ++ ns = second ∙ ap (λ (xs : List ℕ). one ++ flat_map (λ (n : ℕ). input_line t (activation_words n (file_of files n))) xs) en in
    let c : three ≡ two ++ ps = third ∙ ap (λ (xs : List (List ℕ)). two ++ flat_map (λ (p : List ℕ). input_line t (packet_sent v p)) xs) ep in
    c ∙ ap (λ (xs : List ℕ). xs ++ ps) (b ∙ ap (λ (xs : List ℕ). xs ++ ns) a) ∙ three_parts out us ns ps
  where
    three_parts : (xs us ns ps : List ℕ) → ((xs ++ us) ++ ns) ++ ps ≡ xs ++ ((us ++ ns) ++ ps)
    three_parts xs us ns ps = simp append_assoc
