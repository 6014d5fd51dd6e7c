-- What objects tell over several calls.
use Rattle.std.proofs.Common.{◌≡◌, sym, ◌∙◌, subst, Option, Some}
use Rattle.fsw_outside.specs.Told.{WhereTold}

-- the same content, told twice
pub same_content : {A : Type 0} (a b : A) → Some a ≡ Some b → a ≡ b
same_content a b same = cc

-- nothing happened, and so all that holds of one content and itself
pub told_nothing : {A : Type 0} (told : Option A) (P : A → A → Type 0) → ((a : A) → P a a) → WhereTold told told P
told_nothing told P holds after tells = (after, tells, holds after)

-- a fact that follows from another
pub told_map : {A : Type 0} {start end : Option A} {P Q : A → A → Type 0} → WhereTold start end P → ((a b : A) → P a b → Q a b) → WhereTold start end Q
told_map first step after tells =
    let earlier = first after tells in
    (earlier.0, earlier.1, step earlier.0 after earlier.2)

-- one call after another
pub told_then : {A : Type 0} {start middle end : Option A} {P Q R : A → A → Type 0} → WhereTold start middle P → WhereTold middle end Q → ((a b c : A) → P a b → Q b c → R a c) → WhereTold start end R
told_then first second join after tells =
    let later = second after tells in
    let earlier = first later.0 later.1 in
    (earlier.0, earlier.1, join earlier.0 later.0 after earlier.2 later.2)

-- two facts of one call
pub told_and : {A : Type 0} {start end : Option A} {P Q : A → A → Type 0} → WhereTold start end P → WhereTold start end Q → WhereTold start end (λ a b. P a b × Q a b)
told_and {P} {Q} first second after tells =
    let one = first after tells in
    let other = second after tells in
    let same : other.0 ≡ one.0 = same_content other.0 one.0 (sym other.1 ∙ one.1) in
    (one.0, one.1, (one.2, subst (λ a. Q a after) same other.2))
