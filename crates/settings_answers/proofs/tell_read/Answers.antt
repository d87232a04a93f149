use Rattle.settings_answers.proofs.ToldLaws.{told-shown}
use Rattle.settings_answers.proofs.tell_read.Goals as goal

pub returns-in-Ok : goal.returns-in-Ok
returns-in-Ok c =
    told-shown c.args.read c.args.answer.now _ _ _ c.in-Ok.is c.settings_words.ensures c.write.ensures c.requires
