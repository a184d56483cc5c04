-- `translate::answer` meets its contract.
use Rattle.translate.proofs.Writing.{file-within}
use Rattle.translate.proofs.answer.Goals as goal

pub returns-clause-place : goal.returns-clause-place
returns-clause-place c = file-within c.translate-told.result _ c.file_length.ensures c.translate-told.ensures.answers
