mod ExportLemmas
mod RecordLemmas
mod RowLemmas
