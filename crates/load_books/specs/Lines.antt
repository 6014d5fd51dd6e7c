-- Lines of a book by their numbers in a part.
use Rattle.std.specs.Prelude.{ℕ, ◌+◌, ◌-◌, if◌then◌else◌, nat_lt}
use Rattle.table_texts.specs.declared.fault.TextFault.{TextFault}
use Rattle.table_forms.specs.declared.fault.TableFault.{TableFault}
use Rattle.table_forms.specs.declared.fault.TableFault.TheVariants as tables
use Rattle.load_texts.specs.declared.fault.LoadFault.{LoadFault}
use Rattle.load_texts.specs.declared.fault.LoadFault.TheVariants as loads
use Rattle.plan_text.specs.declared.fault.PlanFault.{PlanFault}

-- line n of a part that begins at this line of the book; numbers over the largest one are the largest
abbrev pub book_line : ℕ → ℕ → ℕ
book_line part n = if nat_lt (4294967295 - part) n then 4294967295 else part + n

abbrev pub text_fault : ℕ → TextFault → TextFault
text_fault part fault = record { line = book_line part fault.line; fault = fault.fault }

-- a fault of a table's text; one of the file or of an entry has no line
abbrev pub table_fault : ℕ → TableFault → TableFault
table_fault part (tables.Text fault) = tables.Text (text_fault part fault)
table_fault part (tables.Table n) = tables.Table (book_line part n)
table_fault part (tables.Name n) = tables.Name (book_line part n)
table_fault part (tables.Description n) = tables.Description (book_line part n)
table_fault part (tables.Head n) = tables.Head (book_line part n)
table_fault part (tables.File fault) = tables.File fault
table_fault part (tables.Entry kind fault) = tables.Entry kind fault

-- a fault of a load's text; one of the number of bytes has no line
abbrev pub load_fault : ℕ → LoadFault → LoadFault
load_fault part (loads.Text fault) = loads.Text (text_fault part fault)
load_fault part (loads.Description n) = loads.Description (book_line part n)
load_fault part (loads.Load n) = loads.Load (book_line part n)
load_fault part (loads.Word n) = loads.Word (book_line part n)
load_fault part (loads.Size n) = loads.Size n

abbrev pub plan_fault : ℕ → PlanFault → PlanFault
plan_fault part fault = record { line = book_line part fault.line; reason = fault.reason }
