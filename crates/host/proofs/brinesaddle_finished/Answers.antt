-- `brinesaddle_finished` meets its contract: what the call beneath says, in the host's words.
use Rattle.recognizer.specs.Answers.{says_yes}
use Rattle.host.proofs.Telling.{in_a_word}
use Rattle.host.proofs.brinesaddle_finished.Goals as goal

pub returns-clause-calls : goal.returns-clause-calls
returns-clause-calls c =
    rw (c.tell_whether.ensures.number, c.tell_whether.ensures.yes, c.tell_whether.ensures.handle, ← c.state.ensures) (in_a_word (says_yes c.finished-whether.result) c.finished-whether.ensures.calls)
