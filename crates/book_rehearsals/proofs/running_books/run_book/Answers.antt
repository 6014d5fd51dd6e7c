use Rattle.ground_files.specs.Workspaces.{input_taken}
use Rattle.book_rehearsals.proofs.LeftLemmas.{taken, ends_unread, ends_unready, ends_read}
use Rattle.book_rehearsals.proofs.running_books.run_book.Goals as goal

pub returns-in-Err : goal.returns-in-Err
returns-in-Err g c = λ before holds.
    let held = g.W.Workspace.held in
    ends_unread c.args.run.now c.tell_unread.result before (held c.args.workspace.now) (held c.read_input.new.workspace) c.tell_unread.ensures holds c.read_input.ensures.held

pub returns : goal.returns
returns g c = λ before holds.
    let held = g.W.Workspace.held in
    ends_unready c.args.run.now c.in-Err-ready_book.status before (held c.args.workspace.now) (held c.read_input.new.workspace) c.in-Ok.text.items c.as_slice-text.result.now
    c.in-Err-ready_book.ensures.unready (c.in-Ok.ensures.bytes before holds) c.as_slice-text.ensures.value holds c.read_input.ensures.held

pub returns-in-Ok-ready_book : goal.returns-in-Ok-ready_book
returns-in-Ok-ready_book g c = λ before holds.
    let run = c.args.run.now in
    let held = g.W.Workspace.held in
    let ready = c.in-Ok-ready_book.ready in
    ends_read run c.rehearse_ready.result before (held c.rehearse_ready.new.workspace) c.in-Ok.text.items c.as_slice-text.result.now ready.shelved.shelf ready.words
    (c.in-Ok.ensures.bytes before holds) c.as_slice-text.ensures.value c.in-Ok-ready_book.ensures.ready
    (c.rehearse_ready.ensures (input_taken run.scenario.now before) (taken run.scenario.now before (held c.args.workspace.now) (held c.read_input.new.workspace) holds c.read_input.ensures.held))
