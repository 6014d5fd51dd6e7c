use Rattle.std.proofs.Common.{map, ap}
use Rattle.load_books.specs.Books.{book_made}
use Rattle.ground_books.specs.Built.{built_seen}
use Rattle.ground_books.proofs.BuiltLemmas.{built_whole}
use Rattle.ground_books.proofs.book_files.files_of.Goals as goal

pub returns : goal.returns
returns c =
    built_whole (book_made c.args.book) (map built_seen c.new-out.result.items) (map built_seen c.add_parts.new.out.items) (map built_seen c.add_file.new.out.items) (map built_seen c.add_file-2.new.out.items) _ _ _
    (ap (λ files. map built_seen files) c.new-out.ensures.items) c.in_ok-add_parts.ensures c.in_ok-add_file.ensures c.in_ok-add_file-2.ensures c.in_ok-whole_name.ensures c.in_ok-whole_name-2.ensures c.in_ok-manifest.ensures
