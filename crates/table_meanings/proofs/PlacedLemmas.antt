-- Lemmas on fields whose texts lie elsewhere: they say what words say as these fields do.
use Rattle.std.proofs.Common.{◌≡◌, ℕ, ◌+◌, List, [], ◌∷◌, map, Option, Some, None, refl, ap, ◌∙◌}
use Rattle.std.specs.Prelude.{Result, if◌then◌else◌, option_map, option_and_then, replicate}
use Rattle.std.specs.Str.{bytes_eq}
use Rattle.row_forms.specs.declared.field.Choice.{Choice}
use Rattle.row_forms.specs.declared.field.Field.{Field}
use Rattle.row_forms.specs.declared.field.Field.TheVariants.{Value, Zeros, Check}
use Rattle.row_forms.specs.declared.field.Kind.{Kind}
use Rattle.row_forms.specs.declared.field.Kind.TheVariants.{Number, Name, Block, Expression}
use Rattle.row_forms.specs.declared.field.Spelling.{Spelling}
use Rattle.row_forms.specs.declared.field.Spelling.TheVariants as spellings
use Rattle.row_forms.specs.declared.field.Width.{Width}
use Rattle.row_forms.specs.declared.field.Width.TheVariants.{U8, U16, U32}
use Rattle.row_forms.specs.declared.fault.Reason.{Reason}
use Rattle.row_forms.specs.Lists.{parts}
use Rattle.row_forms.specs.Numbers.{number_bytes, number_said, choice_said, most_of}
use Rattle.row_forms.specs.Words.{at_most}
use Rattle.row_forms.specs.Values.{value_said, reason_of, reason_of_number, steps_said, expression_of, expression_said}
use Rattle.row_forms.specs.Rows.{behind_key, value_or, keyed_said, field_said, then_said, with_front, with_check, row_said}
use Rattle.table_forms.specs.Layouts.{placed_choice, placed_spelling, placed_kind, placed_field}

choice_placed : (most : ℕ) (cs : List Choice) (text : List ℕ) → choice_said most (map placed_choice cs) text ≡ choice_said most cs text
unfolding choice_said
choice_placed most [] text = refl
choice_placed most (c ∷ cs) text = ap (λ (rest : Option ℕ). if bytes_eq c.text.now text then at_most most c.number else rest) (choice_placed most cs text)

steps_placed : (cs : List Choice) (ps : List (List ℕ)) → steps_said (map placed_choice cs) ps ≡ steps_said cs ps
unfolding steps_said
steps_placed cs [] = refl
steps_placed cs (p ∷ ps) =
    ap (λ (o : Option ℕ). option_and_then (λ n. option_map (λ rest. n ∷ rest) (steps_said (map placed_choice cs) ps)) o) (choice_placed 65535 cs p)
    ∙ ap (λ (more : Option (List ℕ)). option_and_then (λ n. option_map (λ rest. n ∷ rest) more) (choice_said 65535 cs p)) (steps_placed cs ps)

number_placed : (epoch : Option ℕ) (w : Width) (s : Spelling) (text : List ℕ) → number_said epoch w (placed_spelling s) text ≡ number_said epoch w s text
number_placed epoch w spellings.Decimal text = refl
number_placed epoch w spellings.Hex text = refl
number_placed epoch w (spellings.Choice choices) text = choice_placed (most_of w) choices.now text
number_placed epoch w spellings.Mask text = refl
number_placed epoch w spellings.Time text = refl

value_placed : (epoch : Option ℕ) (kind : Kind) (text : List ℕ) → value_said epoch (placed_kind kind) text ≡ value_said epoch kind text
unfolding value_said expression_said
value_placed epoch (Number w s) text = ap (option_map (number_bytes w)) (number_placed epoch w s text)
value_placed epoch Name text = refl
value_placed epoch Block text = refl
value_placed epoch (Expression words) text = ap (option_and_then expression_of) (steps_placed words.now (parts text))

reason_placed_number : (w : Width) (s : Spelling) → reason_of_number w (placed_spelling s) ≡ reason_of_number w s
reason_placed_number U8 spellings.Decimal = refl
reason_placed_number U16 spellings.Decimal = refl
reason_placed_number U32 spellings.Decimal = refl
reason_placed_number U8 spellings.Hex = refl
reason_placed_number U16 spellings.Hex = refl
reason_placed_number U32 spellings.Hex = refl
reason_placed_number U8 (spellings.Choice choices) = refl
reason_placed_number U16 (spellings.Choice choices) = refl
reason_placed_number U32 (spellings.Choice choices) = refl
reason_placed_number U8 spellings.Mask = refl
reason_placed_number U16 spellings.Mask = refl
reason_placed_number U32 spellings.Mask = refl
reason_placed_number U8 spellings.Time = refl
reason_placed_number U16 spellings.Time = refl
reason_placed_number U32 spellings.Time = refl

reason_placed : (kind : Kind) → reason_of (placed_kind kind) ≡ reason_of kind
reason_placed (Number w s) = reason_placed_number w s
reason_placed Name = refl
reason_placed Block = refl
reason_placed (Expression words) = refl

keyed_placed : (epoch : Option ℕ) (kind : Kind) (o : Option (List ℕ)) → keyed_said epoch (placed_kind kind) o ≡ keyed_said epoch kind o
keyed_placed epoch kind None = refl
keyed_placed epoch kind (Some text) =
    ap (λ (reason : Reason). value_or reason (value_said epoch (placed_kind kind) text)) (reason_placed kind)
    ∙ ap (value_or (reason_of kind)) (value_placed epoch kind text)

field_placed : (epoch : Option ℕ) (key : List ℕ) (kind : Kind) (word : List ℕ) → field_said epoch key (placed_kind kind) word ≡ field_said epoch key kind word
unfolding field_said
field_placed epoch key kind word = keyed_placed epoch kind (behind_key key word)

pub row_placed : (epoch : Option ℕ) (n : ℕ) (fs : List Field) (ws : List (List ℕ)) → row_said epoch n (map placed_field fs) ws ≡ row_said epoch n fs ws
unfolding row_said
row_placed epoch n [] ws = refl
row_placed epoch n (Value key kind ∷ fs) [] = refl
row_placed epoch n (Value key kind ∷ fs) (w ∷ ws) =
    ap (λ (first : Result (List ℕ) Reason). then_said n first (row_said epoch (n + 1) (map placed_field fs) ws)) (field_placed epoch key.now kind w)
    ∙ ap (then_said n (field_said epoch key.now kind w)) (row_placed epoch (n + 1) fs ws)
row_placed epoch n (Zeros count ∷ fs) [] = ap (with_front (replicate count 0)) (row_placed epoch n fs [])
row_placed epoch n (Zeros count ∷ fs) (w ∷ ws) = ap (with_front (replicate count 0)) (row_placed epoch n fs (w ∷ ws))
row_placed epoch n (Check ∷ fs) [] = ap with_check (row_placed epoch n fs [])
row_placed epoch n (Check ∷ fs) (w ∷ ws) = ap with_check (row_placed epoch n fs (w ∷ ws))
