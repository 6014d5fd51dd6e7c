-- A row that has a field of each sort, for laws on literal words and bytes.
use Rattle.std.specs.Prelude.{ℕ, List, [], ◌∷◌, codes}
use Rattle.std.proofs.Common.{Bor}
use Rattle.row_forms.specs.declared.field.Choice.{Choice}
use Rattle.row_forms.specs.declared.field.Field.{Field}
use Rattle.row_forms.specs.declared.field.Field.TheVariants.{Value, Zeros, Check}
use Rattle.row_forms.specs.declared.field.Kind.{Kind}
use Rattle.row_forms.specs.declared.field.Kind.TheVariants.{Number, Name, Block, Expression}
use Rattle.row_forms.specs.declared.field.Spelling.TheVariants.{Decimal, Hex, Mask, Time}
use Rattle.row_forms.specs.declared.field.Spelling.TheVariants as spellings
use Rattle.row_forms.specs.declared.field.Width.TheVariants.{U8, U16, U32}

-- a reference to a text, wherever it lies
abbrev pub text_at : List ℕ → Bor (List ℕ)
text_at text = record { ref_ptr = (0, 0); now = text }

abbrev pub choice_of : List ℕ → ℕ → Choice
choice_of text n = record { text = text_at text; number = n }

abbrev pub choices_at : List Choice → Bor (List Choice)
choices_at choices = record { ref_ptr = (0, 0); now = choices }

abbrev pub worked_operators : List Choice
worked_operators = choice_of (codes "<") 1 ∷ choice_of (codes "<=") 2 ∷ []

abbrev pub worked_steps : List Choice
worked_steps = choice_of (codes "w1") 0 ∷ choice_of (codes "w2") 1 ∷ choice_of (codes "and") 0x8001 ∷ []

abbrev pub field : List ℕ → Kind → Field
field key kind = Value (text_at key) kind

-- numbers in all spellings and widths, and zero bytes between them
abbrev pub worked_numbers : List Field
worked_numbers =
    field (codes "size") (Number U8 Decimal) ∷ field (codes "count") (Number U16 Decimal) ∷ field (codes "length") (Number U32 Decimal)
    ∷ Zeros 2 ∷ field (codes "byte") (Number U8 Hex) ∷ field (codes "id") (Number U16 Hex) ∷ field (codes "at") (Number U32 Hex)
    ∷ field (codes "is") (Number U16 (spellings.Choice (choices_at worked_operators))) ∷ field (codes "bits") (Number U16 Mask)
    ∷ field (codes "time") (Number U32 Time) ∷ []

-- a check, a name and all bytes that are left
abbrev pub worked_block : List Field
worked_block = field (codes "at") (Number U8 Hex) ∷ Check ∷ field (codes "bytes") Block ∷ []

-- a name, and an expression
abbrev pub worked_expression : List Field
worked_expression = field (codes "app") Name ∷ field (codes "when") (Expression (choices_at worked_steps)) ∷ []

-- an expression of w1, w2 and and
abbrev pub worked_expression_bytes : List ℕ
worked_expression_bytes =
    0x00 ∷ 0x03 ∷ 0x00 ∷ 0x00 ∷ 0x00 ∷ 0x01 ∷ 0x80 ∷ 0x01 ∷ 0 ∷ 0 ∷ 0 ∷ 0 ∷ 0 ∷ 0 ∷ 0 ∷ 0 ∷ 0 ∷ 0 ∷ 0 ∷ 0 ∷ 0 ∷ 0 ∷ 0 ∷ 0 ∷ 0 ∷ 0 ∷ 0 ∷ 0
    ∷ 0 ∷ 0 ∷ 0 ∷ 0 ∷ 0 ∷ 0 ∷ []

-- the name LOAD
abbrev pub worked_name : List ℕ
worked_name = 0x4C ∷ 0x4F ∷ 0x41 ∷ 0x44 ∷ 0 ∷ 0 ∷ 0 ∷ 0 ∷ 0 ∷ 0 ∷ 0 ∷ 0 ∷ 0 ∷ 0 ∷ 0 ∷ 0 ∷ 0 ∷ 0 ∷ 0 ∷ 0 ∷ []
