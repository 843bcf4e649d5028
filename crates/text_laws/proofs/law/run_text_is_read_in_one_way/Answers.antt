-- The text is read from its front to its end; that a command has one reply on a journal rests on the laws.
use Rattle.text_laws.proofs.Replies.{Laws}
use Rattle.text_laws.proofs.Whole.{say_same}
use Rattle.text_laws.proofs.law.run_text_is_read_in_one_way.Goals as goal

pub returns : goal.returns
returns c told other types table scripts last of of_other same =
    let laws : Laws = record { relation_is_one = c.relation_is_one.ensures.only; stamp_is_one = c.stamp_is_one.ensures } in
    say_same laws told other types table scripts last of of_other same
