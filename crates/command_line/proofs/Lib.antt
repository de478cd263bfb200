mod CellLemmas
mod InputLemmas
mod RefusalLemmas
mod TaskLemmas
