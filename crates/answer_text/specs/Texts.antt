-- What is printed of replies and of the entries of a journal, without the end of the line. Numbers
-- are in decimal.
use Rattle.std.specs.Prelude.{ℕ, Bool, true, false, List, [], ◌++◌, length, codes, decimal}
use Rattle.std.specs.List.{flat_map, join_by}
use Rattle.causal_base.specs.declared.answer.Answer.{Answer}
use Rattle.causal_base.specs.declared.answer.Answer.TheVariants as answer
use Rattle.causal_base.specs.declared.entry.Entry.{Entry}
use Rattle.causal_base.specs.declared.entry.Entry.TheVariants.{Came, Gone, Pair, Ended}
use Rattle.causal_base.specs.declared.event_id.EventId.{EventId}
use Rattle.causal_base.specs.Event.{IsFit}
use Rattle.causal_base.specs.Spelling.{id_text, spelling}
use Rattle.causal_base.specs.Types.{TypeTable}
use Rattle.answer_text.specs.declared.reply.Reply.{Reply}
use Rattle.answer_text.specs.declared.reply.Reply.TheVariants.{Yes, No, NotYet, Before, After, Concurrent, Same, Partners, Shown, Stamped, Found, Id, Nothing, Cut, Counted, Here, Closed, Later}

-- a part of a stamp: a trace, and its number of events
abbrev pub text_of_part : ℕ × ℕ → List ℕ
text_of_part (trace, count) = (codes " " ++ decimal trace) ++ (codes "=" ++ decimal count)

-- the number of events of one trace in a cut
abbrev pub text_of_count : ℕ → List ℕ
text_of_count count = codes " " ++ decimal count

-- a match: its ids, with commas between them
abbrev pub text_of_tuple : List EventId → List ℕ
text_of_tuple ids = codes " " ++ join_by id_text (codes ",") ids

-- whether there are more matches than those that stand there
abbrev pub text_of_more : Bool → List ℕ
text_of_more true = codes " more"
text_of_more false = []

-- whether one event happened before another, or which of the two isn't delivered yet
abbrev pub text_of_answer : Answer Bool → List ℕ
text_of_answer (answer.Known true) = codes "yes"
text_of_answer (answer.Known false) = codes "no"
text_of_answer (answer.NotYet id) = codes "notyet " ++ id_text id

-- A reply. `Later` has no text, since it is told to nobody.
abbrev pub text_of_reply : TypeTable → Reply → List ℕ
text_of_reply types Yes = text_of_answer (answer.Known true)
text_of_reply types No = text_of_answer (answer.Known false)
text_of_reply types (NotYet id) = text_of_answer (answer.NotYet id)
text_of_reply types Before = codes "before"
text_of_reply types After = codes "after"
text_of_reply types Concurrent = codes "concurrent"
text_of_reply types Same = codes "same"
text_of_reply types Partners = codes "partners"
text_of_reply types (Shown e) = spelling types e
text_of_reply types (Stamped level parts) =
    (codes "level " ++ decimal level) ++ flat_map text_of_part parts
text_of_reply types (Found tuples more) = (codes "found " ++ decimal (length tuples))
    ++ text_of_more more ++ flat_map text_of_tuple tuples
text_of_reply types (Id id) = id_text id
text_of_reply types Nothing = codes "none"
text_of_reply types (Cut counts) = codes "cut" ++ flat_map text_of_count counts
text_of_reply types (Counted accepted delivered held) = (codes "accepted " ++ decimal accepted)
    ++ (codes " delivered " ++ decimal delivered) ++ (codes " held " ++ decimal held)
text_of_reply types Here = codes "here"
text_of_reply types Closed = codes "closed"
text_of_reply types Later = []

-- a reply that is printed: it isn't `Later`, and an event that it shows is fit
abbrev pub IsPrintable : TypeTable → Reply → Type 0
IsPrintable types (Shown e) = IsFit types e
IsPrintable types Later = ⊥
IsPrintable types _ = Unit {0}

-- an entry of a journal
abbrev pub text_of_entry : TypeTable → Entry → List ℕ
text_of_entry types (Came collector e) =
    (codes "came " ++ decimal collector) ++ (codes " " ++ spelling types e)
text_of_entry types (Gone id) = codes "gone " ++ id_text id
text_of_entry types (Pair a b) = (codes "pair " ++ id_text a) ++ (codes " " ++ id_text b)
text_of_entry types (Ended collector) = codes "ended " ++ decimal collector

-- an entry that is printed: an event that came is fit
abbrev pub IsPrintableEntry : TypeTable → Entry → Type 0
IsPrintableEntry types (Came collector e) = IsFit types e
IsPrintableEntry types _ = Unit {0}
