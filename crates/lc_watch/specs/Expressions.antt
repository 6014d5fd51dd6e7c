-- Expressions over watchpoints in reverse Polish form, and what they leave.
use Rattle.std.specs.Prelude.{◌≡◌, ℕ, ◌+◌, ◌*◌, ◌==◌, Bool, true, false, not, ◌&&◌, ◌||◌, nat_lt, if◌then◌else◌, List, [], ◌∷◌, length, map, Option, Some, None}
use Rattle.std.specs.List.{fold, list_all, range_with_len}
use Rattle.packet_forms.specs.Numbers.{be16_at}
use Rattle.lc_watch.specs.Outcomes.{is_known, is_tripped}
use Rattle.lc_watch.specs.declared.expressions.Word.{Word}
use Rattle.lc_watch.specs.declared.expressions.Word.TheVariants.{Watch, And, Or, Xor, Not, Unknown}
use Rattle.lc_watch.specs.declared.outcomes.Outcome.{Outcome}

-- The word of a number: below 32 it is the watchpoint in this place.
abbrev pub word_of : ℕ → Word
word_of number =
    if nat_lt number 32 then Watch number
    else if number == 0x8001 then And
    else if number == 0x8002 then Or
    else if number == 0x8003 then Xor
    else if number == 0x8004 then Not
    else Unknown

-- The 16 words from a place of a payload on.
abbrev pub word_at : List ℕ → ℕ → ℕ → Word
word_at payload from k = word_of (be16_at payload (from + 2 * k))

unfoldable pub words_at : List ℕ → ℕ → List Word
words_at payload from = map (word_at payload from) (range_with_len 0 16)

-- Whether just one of two holds.
abbrev pub differ : Bool → Bool → Bool
differ true b = not b
differ false b = b

-- What an operator makes of the values that stand so far, the last one first: it takes its operands and leaves its value. None where it
-- lacks an operand.
abbrev pub with_one : (Bool → Bool) → List Bool → Option (List Bool)
with_one f [] = None
with_one f (a ∷ values) = Some (f a ∷ values)

abbrev pub with_two : (Bool → Bool → Bool) → List Bool → Option (List Bool)
with_two f [] = None
with_two f (b ∷ []) = None
with_two f (b ∷ a ∷ values) = Some (f a b ∷ values)

-- What a word makes of the values that stand so far, by the value of each watchpoint.
abbrev pub worked : (ℕ → Bool) → List Bool → Word → Option (List Bool)
worked value values (Watch place) = Some (value place ∷ values)
worked value values And = with_two (λ a b. a && b) values
worked value values Or = with_two (λ a b. a || b) values
worked value values Xor = with_two differ values
worked value values Not = with_one not values
worked value values Unknown = None

abbrev pub worked_on : (ℕ → Bool) → Option (List Bool) → Word → Option (List Bool)
worked_on value None word = None
worked_on value (Some values) word = worked value values word

-- The values that the words of an expression leave, the last one first. None where a word isn't in the list of words, or lacks an operand.
unfoldable pub values_left : (ℕ → Bool) → List Word → Option (List Bool)
values_left value words = fold (worked_on value) (Some []) words

-- Exactly one value is left.
abbrev pub is_one : Option (List Bool) → Bool
is_one None = false
is_one (Some values) = length values == 1

abbrev pub LeavesOne : Option (List Bool) → Type 0
LeavesOne left = (b : Bool) × (left ≡ Some (b ∷ []))

-- The value of an expression that leaves one.
abbrev pub first_of : Option (List Bool) → Bool
first_of None = false
first_of (Some []) = false
first_of (Some (b ∷ values)) = b

-- Whether a word names no watchpoint, or one whose value was compared.
abbrev pub names_known : (ℕ → Outcome) → Word → Bool
names_known outcome (Watch place) = is_known (outcome place)
names_known outcome And = true
names_known outcome Or = true
names_known outcome Xor = true
names_known outcome Not = true
names_known outcome Unknown = false

-- The value of each watchpoint in an expression, by the outcomes: whether its comparison held.
abbrev pub tripped_in : (ℕ → Outcome) → ℕ → Bool
tripped_in outcome place = is_tripped (outcome place)

-- What an expression comes to by the outcomes of the watchpoints: nothing where it names one whose value wasn't compared.
unfoldable pub value_of : (ℕ → Outcome) → List Word → Option Bool
value_of outcome words =
    if list_all (names_known outcome) words then Some (first_of (values_left (tripped_in outcome) words)) else None
