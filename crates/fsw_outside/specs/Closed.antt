-- Nothing is left to read where no file is open: the law of a shelf over memory.
use Rattle.std.specs.Prelude.{◌≡◌, ℕ, Bool, true, false, cond, List, [], Option, Some, None, is_some, IsFalse, unwrap_or, refl}
use Rattle.std.proofs.Common.{sym, ap, ◌∙◌}
use Rattle.fsw_outside.specs.Files.{Content}
use Rattle.fsw_outside.specs.Memory.{rest_at, content_with}
use Rattle.fsw_outside.specs.declared.mem_shelf.StoredFile.{StoredFile}
use Rattle.fsw_outside.specs.declared.mem_shelf.Place.{Place}

-- A choice that gave something.
pub cond_some : {A : Type 0} (test : Bool) (x y : A) → cond test (Some x) None ≡ Some y → (test ≡ true) × (x ≡ y)
cond_some true x y same = (refl, cc)
cond_some false x y same = cc

-- Nothing is left where no file is read.
pub rest_of_none : (files : List StoredFile) (reading : Option Place) → IsFalse (is_some reading) → unwrap_or (rest_at files reading) [] ≡ []
rest_of_none files None closed = refl
rest_of_none files (Some place) closed = cc

-- What a shelf tells where no file is read.
pub told_rest : (test : Bool) (files : List StoredFile) (reading : Option Place) (openings : ℕ) (last : Option ℕ) (content : Content) → cond test (Some (content_with files reading openings last)) None ≡ Some content → IsFalse (is_some reading) → content.rest ≡ []
told_rest test files reading openings last content tells closed =
    let parts = cond_some test (content_with files reading openings last) content tells in
    ap (λ (told : Content). told.rest) (sym parts.1) ∙ rest_of_none files reading closed
