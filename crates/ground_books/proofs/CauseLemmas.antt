-- Lemmas on why the files of a book aren't written.
use Rattle.std.proofs.Common.{◌≡◌, ◌≢◌, ℕ, ◌<◌, List, length, map, get_or, Err, string_bytes, inr, ap, subst, ◌∙◌, arith}
use Rattle.std.proofs.lemmas.Grind.{common_steps}
use Rattle.telecommands.specs.Dictionary.{dictionary, placed}
use Rattle.table_forms.specs.Layouts.{placed as placed_layouts, all_layouts}
use Rattle.load_texts.specs.Headers.{placed_field, all_fields}
use Rattle.load_books.specs.declared.fault.BookError.{BookError}
use Rattle.load_books.specs.declared.fault.BookError.TheVariants as errors
use Rattle.load_books.specs.declared.forms.BookForms.{BookForms}
use Rattle.load_books.specs.Books.{book_said}
use Rattle.ground_files.specs.Workspaces.{Held}
use Rattle.ground_files.specs.Verbs.{IsOver}
use Rattle.ground_making.specs.declared.making.Refusal.{Refusal}
use Rattle.ground_making.specs.declared.making.Refusal.TheVariants as refusals
use Rattle.ground_making.specs.Refused.{book_error_refusal}
use Rattle.ground_books.specs.declared.building.Written.{Written}
use Rattle.ground_books.specs.Built.{GivesBuilt}
use Rattle.ground_books.specs.Placed.{written_as, IsOneOver, IsTextRefused}

-- a text of which no files are built
pub unbuilt : (error : BookError) (refusal : Refusal) (forms : BookForms) (text : List ℕ) → map placed forms.commands.now ≡ dictionary → placed_layouts forms.layouts.now ≡ all_layouts → map placed_field forms.fields.now ≡ all_fields
    → GivesBuilt (book_said forms text) (Err error) → refusal ≡ book_error_refusal error → refusal ≢ refusals.Memory → IsTextRefused text
unbuilt (errors.Memory e) refusal forms text commands layouts fields said is other = absurd (other is)
unbuilt (errors.Book fault) refusal forms text commands layouts fields said is other =
    inr (fault, record { forms = forms; commands = commands; layouts = layouts; fields = fields; is_fault = said })

-- a file that is reached is the book
pub over_one : {D : Type 0} (files : List (Written D)) (place : ℕ) (file d : Written D) (path input : List ℕ) (held : Held) → place < length files → file ≡ get_or files place d → path ≡ string_bytes file.path → IsOver path input held → IsOneOver input held (map written_as files)
over_one {D} files place file d path input held within is same over = (
  place,
  written_as (get_or files place d),
  grind (arith, common_steps),
  grind (arith, common_steps),
  subst (λ (name : List ℕ). IsOver name input held) (same ∙ ap (λ (one : Written D). string_bytes one.path) is) over,
)
