-- Lemmas on commands whose texts lie elsewhere.
use Rattle.std.proofs.Common.{◌≡◌, ℕ, ◌+◌, Bool, true, false, List, [], ◌∷◌, map, Option, Some, None, refl, ap, sym, ◌∙◌}
use Rattle.std.specs.Prelude.{codes, if◌then◌else◌}
use Rattle.std.specs.Str.{bytes_eq}
use Rattle.row_forms.specs.declared.field.Field.{Field}
use Rattle.row_forms.specs.declared.field.Field.TheVariants.{Value, Zeros, Check}
use Rattle.row_forms.specs.Rows.{behind_key, field_said, then_said, with_front, with_check, row_said}
use Rattle.std.specs.Prelude.{replicate}
use Rattle.telecommands.specs.declared.command.Command.{Command}
use Rattle.telecommands.specs.Commands.{named, sent, named_said, word_said, command_said}
use Rattle.telecommands.specs.Dictionary.{placed, placed_field}

placed_row : (epoch : Option ℕ) (n : ℕ) (fs : List Field) (ws : List (List ℕ)) → row_said epoch n (map placed_field fs) ws ≡ row_said epoch n fs ws
unfolding row_said
placed_row epoch n [] ws = refl
placed_row epoch n (Value key kind ∷ fs) [] = refl
placed_row epoch n (Value key kind ∷ fs) (w ∷ ws) = ap (then_said n (field_said epoch key.now kind w)) (placed_row epoch (n + 1) fs ws)
placed_row epoch n (Zeros count ∷ fs) [] = ap (with_front (replicate count 0)) (placed_row epoch n fs [])
placed_row epoch n (Zeros count ∷ fs) (w ∷ ws) = ap (with_front (replicate count 0)) (placed_row epoch n fs (w ∷ ws))
placed_row epoch n (Check ∷ fs) [] = ap with_check (placed_row epoch n fs [])
placed_row epoch n (Check ∷ fs) (w ∷ ws) = ap with_check (placed_row epoch n fs (w ∷ ws))

abbrev placed_option : Option Command → Option Command
placed_option None = None
placed_option (Some c) = Some (placed c)

named_nil : (name : List ℕ) → named [] name ≡ None
unfolding named
named_nil name = refl

named_cons : (c : Command) (cs : List Command) (name : List ℕ) → named (c ∷ cs) name ≡ (if bytes_eq c.name.now name then Some c else named cs name)
unfolding named
named_cons c cs name = refl

placed_named : (cs : List Command) (name : List ℕ) → named (map placed cs) name ≡ placed_option (named cs name)
placed_named [] name = named_nil name ∙ ap placed_option (sym (named_nil name))
placed_named (c ∷ cs) name = named_cons (placed c) (map placed cs) name ∙ by (bytes_eq c.name.now name) (placed_named cs name) ∙ ap placed_option (sym (named_cons c cs name)) where
  by : (b : Bool) → named (map placed cs) name ≡ placed_option (named cs name) → (if b then Some (placed c) else named (map placed cs) name) ≡ placed_option (if b then Some c else named cs name)
  by true h = refl
  by false h = h

placed_said : (epoch : Option ℕ) (n : ℕ) (o : Option Command) (ws : List (List ℕ)) → named_said epoch n (placed_option o) ws ≡ named_said epoch n o ws
placed_said epoch n None ws = refl
placed_said epoch n (Some c) ws = ap (sent c) (placed_row epoch (n + 1) c.fields.now ws)

placed_word : (epoch : Option ℕ) (n : ℕ) (cs : List Command) (o : Option (List ℕ)) (w : List ℕ) (ws : List (List ℕ)) → word_said epoch n (map placed cs) o w ws ≡ word_said epoch n cs o w ws
placed_word epoch n cs (Some digits) w ws = refl
placed_word epoch n cs None w ws = ap (λ (o : Option Command). named_said epoch n o ws) (placed_named cs w) ∙ placed_said epoch n (named cs w) ws

-- where the texts of commands lie says nothing
pub placed_commands : (epoch : Option ℕ) (n : ℕ) (cs : List Command) (ws : List (List ℕ)) → command_said epoch n (map placed cs) ws ≡ command_said epoch n cs ws
unfolding command_said
placed_commands epoch n cs [] = refl
placed_commands epoch n cs (w ∷ ws) = placed_word epoch n cs (behind_key (codes "packet") w) w ws
