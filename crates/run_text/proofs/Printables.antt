-- What a transcript tells can be printed.
use Rattle.std.proofs.Common.{◌≡◌, ◌≢◌, ℕ, ◌+◌, ◌<◌, zero, suc, Bool, true, false, inl, inr, List, [], ◌∷◌, ◌++◌, length, get_or, take, drop, refl, sym, ◌∙◌, ap, subst, arith}
use Rattle.std.specs.Prelude.{Contains, Option, None, Some, slice_get, reverse}
use Rattle.std.specs.List.{AllByRecursion}
use Rattle.std.proofs.lemmas.List.{reverse-append, take-append-drop, take_more}
use Rattle.std.proofs.lemmas.Option.{get_or_from_slice_get, slice_get_within}
use Rattle.answer_text.specs.declared.reply.Reply.{Reply}
use Rattle.answer_text.specs.declared.reply.Reply.TheVariants as reply
use Rattle.answer_text.specs.Texts.{IsPrintable, IsPrintableEntry}
use Rattle.causal_base.specs.declared.entry.Entry.{Entry}
use Rattle.causal_base.specs.declared.entry.Entry.TheVariants as entry
use Rattle.causal_base.specs.declared.event.Event as event
use Rattle.causal_base.specs.declared.event_id.EventId.{EventId}
use Rattle.causal_base.specs.declared.related.Related.{Related}
use Rattle.causal_base.specs.declared.related.Related.TheVariants as related
use Rattle.causal_base.specs.Event.{IsFit}
use Rattle.causal_base.specs.Journal.{IsLegal, delivered_by}
use Rattle.causal_base.specs.Past.{IsLegalPast, MayStand}
use Rattle.causal_base.specs.Types.{TypeTable}
use Rattle.causal_base.proofs.CallerLemmas.{came_fit, delivered_came, reverse-push}
use Rattle.client_session.specs.declared.command.Command.{Command}
use Rattle.client_session.specs.declared.command.Command.TheVariants.{Before, Relation, Event, Stamp, GreatestBefore, LeastAfter, CutNone, CutAll, CutTo, CutBack, CutHas, Count, Await}
use Rattle.client_session.specs.Replies.{Seen, IsReply, IsSaid, id_or_nothing, word_of, yes_or_no}
use Rattle.poet_serve.specs.declared.report.ClientReport.{ClientReport}
use Rattle.poet_serve.specs.declared.report.Line.{Line}
use Rattle.poet_serve.specs.Asking.{AreLinesFrom, IsLine, seen_at}
use Rattle.poet_serve.specs.Transcripts.{AreTold}
use Rattle.run_text.specs.Printable.{HasPrintableLines, HavePrintableLines, IsPrintableLine}

-- what stands before something in a legal past is legal
legal_behind : (types : TypeTable) (newer past : List Entry) → IsLegalPast types (newer ++ past) → IsLegalPast types past
legal_behind types [] past legal = legal
legal_behind types (one ∷ newer) past legal = legal_behind types newer past legal.1

-- the first entries of a legal journal are legal
legal_taken : (types : TypeTable) (n : ℕ) (journal : List Entry) → IsLegal types journal → IsLegal types (take n journal)
legal_taken types n journal legal =
    legal_behind types (reverse (drop n journal)) (reverse (take n journal))
    (subst (IsLegalPast types) (ap reverse (sym (take-append-drop n journal)) ∙ reverse-append (take n journal) (drop n journal)) legal)

-- what is delivered is fit
delivered_fit : (types : TypeTable) (journal : List Entry) → IsLegal types journal → (e : event.Event) → Contains (delivered_by journal) e → IsFit types e
delivered_fit types journal legal e there =
    came_fit types (reverse journal) legal e (delivered_came types (reverse journal) legal e there)

answer_printable : (types : TypeTable) (happened : Bool) → IsPrintable types (yes_or_no happened)
answer_printable types true = tt
answer_printable types false = tt

word_printable : (types : TypeTable) (lies : Related) → IsPrintable types (word_of lies)
word_printable types related.Before = tt
word_printable types related.After = tt
word_printable types related.Concurrent = tt
word_printable types related.Same = tt
word_printable types related.Partners = tt

id_printable : (types : TypeTable) (found : Option EventId) → IsPrintable types (id_or_nothing found)
id_printable types None = tt
id_printable types (Some id) = tt

-- what is said and isn't 'later' can be printed
said_printable : (seen : Seen) (cut : List ℕ) (command : Command) (said : Reply) (after : List ℕ) → IsLegal seen.types seen.journal → IsSaid seen cut command said after → said ≢ reply.Later → IsPrintable seen.types said
said_printable seen cut (Before a b) said after legal says now =
    subst (IsPrintable seen.types) (sym says.0.2) (answer_printable seen.types says.0.0)
said_printable seen cut (Relation a b) said after legal says now =
    subst (IsPrintable seen.types) (sym says.0.2) (word_printable seen.types says.0.0)
said_printable seen cut (Event a) said after legal says now =
    subst (IsPrintable seen.types) (sym says.0.3) (delivered_fit seen.types seen.journal legal says.0.0 says.0.1)
said_printable seen cut (Stamp a) said after legal says now = subst (IsPrintable seen.types) (sym says.0.shows) tt
said_printable seen cut (GreatestBefore a trace) said after legal says now =
    subst (IsPrintable seen.types) (sym says.0.2) (id_printable seen.types says.0.0)
said_printable seen cut (LeastAfter a trace) said after legal says now =
    subst (IsPrintable seen.types) (sym says.0.2) (id_printable seen.types says.0.0)
said_printable seen cut CutNone said after legal says now = subst (IsPrintable seen.types) (sym says.1) tt
said_printable seen cut CutAll said after legal says now = subst (IsPrintable seen.types) (sym says.1) tt
said_printable seen cut (CutTo a) said after legal says now = subst (IsPrintable seen.types) (sym says.1) tt
said_printable seen cut (CutBack a) said after legal says now = subst (IsPrintable seen.types) (sym says.1) tt
said_printable seen cut (CutHas a) said after legal says now =
    subst (IsPrintable seen.types) (sym says.0.2) (answer_printable seen.types says.0.0)
said_printable seen cut Count said after legal says now = subst (IsPrintable seen.types) (sym says.0) tt
said_printable seen cut (Await a) said after legal says now = elim says.0 [
  | inl here ↦ subst (IsPrintable seen.types) (sym here.1) tt
  | inr absent ↦ elim absent.1 [
    | inl closed ↦ subst (IsPrintable seen.types) (sym closed.1) tt
    | inr later ↦ absurd (now later.1)
  ]
]

-- a reply that isn't 'later' can be printed
reply_printable : (seen : Seen) (cut : List ℕ) (command : Command) (said : Reply) (after : List ℕ) → IsLegal seen.types seen.journal → IsReply seen cut command said after → said ≢ reply.Later → IsPrintable seen.types said
reply_printable seen cut command said after legal is_reply now = elim is_reply [
  | inl missing ↦ subst (IsPrintable seen.types) (sym missing.2) tt
  | inr says ↦ said_printable seen cut command said after legal says.1 now
]

module _ (seen : Seen) (legal : IsLegal seen.types seen.journal) where
  -- a line that a client was told can be printed
  line_printable : (commands : List Command) (place least : ℕ) (cut : List ℕ) (line : Line) (after : List ℕ) → IsLine seen commands place least cut line after → IsPrintableLine seen.types commands line
  line_printable commands place least cut line after is = record {
    command = is.command;
    command_is = subst (λ n. slice_get commands n ≡ Some is.command) (sym is.place_is) is.command_is;
    reply = reply_printable (seen_at seen line.at) cut is.command line.reply after (legal_taken seen.types line.at seen.journal legal) is.reply is.told;
  }

  -- and so can lines
  pub lines_printable : (commands : List Command) (place least : ℕ) (cut : List ℕ) (lines : List Line) → AreLinesFrom seen commands place least cut lines → AllByRecursion (IsPrintableLine seen.types commands) lines
  lines_printable commands place least cut [] are = tt
  lines_printable commands place least cut (line ∷ lines) are =
      (line_printable commands place least cut line are.0 are.1, lines_printable commands (suc place) line.at are.0 lines are.2)

  -- and so can the lines of each client
  pub clients_printable : (scripts : List (List Command)) (clients : List ClientReport) → AreTold seen scripts clients → HavePrintableLines seen.types scripts clients
  clients_printable [] [] told = tt
  clients_printable [] (report ∷ reports) told = told
  clients_printable (commands ∷ scripts) [] told = told
  clients_printable (commands ∷ scripts) (report ∷ reports) told =
      (lines_printable commands 0 0 told.0.cut report.lines told.0.lines_are, clients_printable scripts reports told.1)

-- an entry that may stand somewhere can be printed
may_be_printed : (types : TypeTable) (past : List Entry) (one : Entry) → MayStand types past one → IsPrintableEntry types one
may_be_printed types past (entry.Came collector e) may = may.fit
may_be_printed types past (entry.Gone a) may = tt
may_be_printed types past (entry.Pair a b) may = tt
may_be_printed types past (entry.Ended collector) may = tt

-- an entry of a legal journal can be printed
pub entry_printable : (types : TypeTable) (journal : List Entry) (at : ℕ) (one : Entry) → IsLegal types journal → slice_get journal at ≡ Some one → IsPrintableEntry types one
entry_printable types journal at one legal is =
    let here : get_or journal at one ≡ one = get_or_from_slice_get journal at one one is in
    let newest : take (at + 1) journal ≡ take at journal ++ one ∷ [] = take_more journal at one (slice_get_within journal at one is) ∙ ap (λ (x : Entry). take at journal ++ x ∷ []) here in
    may_be_printed types (reverse (take at journal)) one
    (subst (IsLegalPast types) (ap reverse newest ∙ reverse-push (take at journal) one) (legal_taken types (at + 1) journal legal)).0

-- there are as many clients as scripts
pub as_many_clients : (types : TypeTable) (scripts : List (List Command)) (clients : List ClientReport) → HavePrintableLines types scripts clients → length scripts ≡ length clients
as_many_clients types [] [] are = refl
as_many_clients types [] (report ∷ reports) are = absurd are
as_many_clients types (commands ∷ scripts) [] are = absurd are
as_many_clients types (commands ∷ scripts) (report ∷ reports) are = ap suc (as_many_clients types scripts reports are.1)

-- the lines of the client at a place can be printed
pub client_printable : (types : TypeTable) (scripts : List (List Command)) (clients : List ClientReport) (i : ℕ) (commands : List Command) (report : ClientReport) → HavePrintableLines types scripts clients → i < length clients → commands ≡ get_or scripts i commands → report ≡ get_or clients i report → HasPrintableLines types commands report
client_printable types [] [] i commands report are within is has = absurd (omega (arith, within))
client_printable types [] (one ∷ clients) i commands report are within is has = absurd are
client_printable types (one ∷ scripts) [] i commands report are within is has = absurd are
client_printable types (one ∷ scripts) (other ∷ clients) zero commands report are within is has =
    subst (λ (script : List Command). HasPrintableLines types script report) (sym is) (subst (HasPrintableLines types one) (sym has) are.0)
client_printable types (one ∷ scripts) (other ∷ clients) (suc i) commands report are within is has =
    client_printable types scripts clients i commands report are.1 (omega (arith, within)) is has

-- what holds of each holds of the one at a place
pub each_at : {X : Type 0} (P : X → Type 0) (xs : List X) (i : ℕ) (x : X) → AllByRecursion P xs → i < length xs → x ≡ get_or xs i x → P x
each_at P [] i x all within is = absurd (omega (arith, within))
each_at P (y ∷ xs) zero x all within is = subst P (sym is) all.0
each_at P (y ∷ xs) (suc i) x all within is = each_at P xs i x all.1 (omega (arith, within)) is
