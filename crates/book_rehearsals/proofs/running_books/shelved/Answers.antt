use Rattle.load_books.specs.Books.{book_made}
use Rattle.book_rehearsals.proofs.running_books.shelved.Goals as goal

pub returns-in-Ok-clause-shelved : goal.returns-in-Ok-clause-shelved
returns-in-Ok-clause-shelved c = record {
  forms = c.book_forms.result;
  commands = c.book_forms.ensures.listed_commands;
  layouts = c.book_forms.ensures.listed_layouts;
  fields = c.book_forms.ensures.listed_fields;
  book = book_made c.in-Ok.shelved.book;
  is_said = c.in-Ok.ensures.0;
  shelved = c.in-Ok.ensures.1;
}
