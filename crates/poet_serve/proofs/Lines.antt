-- The lines of a client, one after another.
use Rattle.std.proofs.Common.{◌≡◌, ◌≢◌, ◌+◌, ◌<◌, ◌≤◌, ℕ, suc, Bool, true, false, inl, inr, List, [], ◌∷◌, ◌++◌, length, take, refl, sym, ◌∙◌, ap, subst, arith}
use Rattle.std.specs.Prelude.{slice_get, Option, Some, None, Result, Ok, Err, OnOk}
use Rattle.std.specs.Result.{is_err}
use Rattle.std.proofs.lemmas.List.{length-replicate, take_all}
use Rattle.std.proofs.lemmas.Option.{slice_get-get_or}
use Rattle.std.proofs.lemmas.List.Elements.{All-replicate}
use Rattle.std.proofs.Math.ListN.{replicate}
use Rattle.answer_text.specs.declared.reply.Reply.{Reply}
use Rattle.answer_text.specs.declared.reply.Reply.TheVariants as reply
use Rattle.causal_base.specs.declared.related.Related.{Related}
use Rattle.causal_base.specs.declared.related.Related.TheVariants as related
use Rattle.causal_base.specs.declared.entry.Entry.{Entry}
use Rattle.causal_base.specs.declared.event_id.EventId.{EventId}
use Rattle.client_session.specs.declared.command.Command.{Command}
use Rattle.client_session.specs.declared.command.Command.TheVariants.{Before, Relation, Event, Stamp, GreatestBefore, LeastAfter, CutNone, CutAll, CutTo, CutBack, CutHas, Count, Await}
use Rattle.client_session.specs.Replies.{Seen, HaveAllEnded, IsEmptyCut, IsReply, IsSaid, id_or_nothing, word_of, yes_or_no}
use Rattle.poet_serve.specs.declared.report.Line.{Line}
use Rattle.poet_serve.specs.declared.report.ClientReport.{ClientReport}
use Rattle.poet_serve.specs.Transcripts.{AreTold, AreToldFrom}
use Rattle.poet_serve.specs.Asking.{AreLinesFrom, IsLine, IsTold, seen_at}
use Rattle.poet_serve.specs.Chains.{LeadTo}

not_word : (lies : Related) → word_of lies ≡ reply.Later → ⊥
not_word related.Before is = absurd cc
not_word related.After is = absurd cc
not_word related.Concurrent is = absurd cc
not_word related.Same is = absurd cc
not_word related.Partners is = absurd cc

not_yes_or_no : (happened : Bool) → yes_or_no happened ≡ reply.Later → ⊥
not_yes_or_no true is = absurd cc
not_yes_or_no false is = absurd cc

not_an_id : (found : Option EventId) → id_or_nothing found ≡ reply.Later → ⊥
not_an_id None is = absurd cc
not_an_id (Some id) is = absurd cc

-- where each collector has ended, no reply is 'later'
said_now : (seen : Seen) (cut : List ℕ) (command : Command) (said : Reply) (after : List ℕ) → HaveAllEnded seen → IsSaid seen cut command said after → said ≡ reply.Later → ⊥
said_now seen cut (Before a b) said after ended says is = not_yes_or_no says.0.0 (sym says.0.2 ∙ is)
said_now seen cut (Relation a b) said after ended says is = not_word says.0.0 (sym says.0.2 ∙ is)
said_now seen cut (Event a) said after ended says is = let other = sym says.0.3 ∙ is in absurd cc
said_now seen cut (Stamp a) said after ended says is = let other = sym says.0.shows ∙ is in absurd cc
said_now seen cut (GreatestBefore a trace) said after ended says is = not_an_id says.0.0 (sym says.0.2 ∙ is)
said_now seen cut (LeastAfter a trace) said after ended says is = not_an_id says.0.0 (sym says.0.2 ∙ is)
said_now seen cut CutNone said after ended says is = let other = sym says.1 ∙ is in absurd cc
said_now seen cut CutAll said after ended says is = let other = sym says.1 ∙ is in absurd cc
said_now seen cut (CutTo a) said after ended says is = let other = sym says.1 ∙ is in absurd cc
said_now seen cut (CutBack a) said after ended says is = let other = sym says.1 ∙ is in absurd cc
said_now seen cut (CutHas a) said after ended says is = not_yes_or_no says.0.0 (sym says.0.2 ∙ is)
said_now seen cut Count said after ended says is = let other = sym says.0 ∙ is in absurd cc
said_now seen cut (Await a) said after ended says is = elim says.0 [
  | inl here ↦ let other = sym here.1 ∙ is in absurd cc
  | inr absent ↦ elim absent.1 [
    | inl closed ↦ let other = sym closed.1 ∙ is in absurd cc
    | inr later ↦ later.0 ended
  ]
]

pub never_later : (seen : Seen) (cut : List ℕ) (command : Command) (said : Reply) (after : List ℕ) → HaveAllEnded seen → IsReply seen cut command said after → said ≢ reply.Later
never_later seen cut command said after ended is_reply is = elim is_reply [
  | inl missing ↦ let other = sym missing.2 ∙ is in absurd cc
  | inr says ↦ said_now seen cut command said after ended says.1 is
]

-- one line more
pub leads_on : (seen : Seen) (commands : List Command) (place at entries : ℕ) (cut : List ℕ) (lines : List Line) (last : List ℕ) → LeadTo seen commands place entries cut lines last → at ≡ place + length lines
    → (line : Line) (after : List ℕ) → line.at ≡ entries → IsLine seen commands at entries last line after → LeadTo seen commands place entries cut (lines ++ line ∷ []) after
leads_on seen commands place at entries cut [] last leads where_at line after same is =
    let here : at ≡ place = where_at ∙ omega arith in
    (after, same, subst (λ (c : List ℕ). IsLine seen commands place entries c line after) leads (subst (λ n. IsLine seen commands n entries last line after) here is), refl)
leads_on seen commands place at entries cut (first ∷ lines) last (between, is_at, one, rest) where_at line after same is =
    (between, is_at, one, leads_on seen commands (suc place) at entries between lines last rest (where_at ∙ omega arith) line after same is)

-- these are lines, on no fewer entries than the one before
pub lines_from : (seen : Seen) (commands : List Command) (place entries : ℕ) (cut : List ℕ) (lines : List Line) (last : List ℕ) → LeadTo seen commands place entries cut lines last → AreLinesFrom seen commands place entries cut lines
lines_from seen commands place entries cut [] last leads = tt
lines_from seen commands place entries cut (line ∷ lines) last (after, is_at, one, rest) =
    (after, one, subst (λ n. AreLinesFrom seen commands (suc place) n after lines) (sym is_at) (lines_from seen commands (suc place) entries after lines last rest))

-- all entries are seen where as many are taken
seen_whole : (seen : Seen) (entries : ℕ) → entries ≡ length seen.journal → seen_at seen entries ≡ seen
seen_whole seen entries all = ap (λ (j : List Entry). record seen { journal = j }) (ap (λ n. take n seen.journal) all ∙ take_all (length seen.journal) seen.journal (omega arith))

-- a line on the whole journal
pub whole_line : (seen : Seen) (commands : List Command) (place : ℕ) (cut : List ℕ) (line : Line) (after : List ℕ) (command : Command) → line.at ≡ length seen.journal → line.place ≡ place → slice_get commands place ≡ Some command
    → IsReply seen cut command line.reply after → line.reply ≢ reply.Later → IsLine seen commands place (length seen.journal) cut line after
whole_line seen commands place cut line after command at place_is there is_reply told = record {
  place_is = place_is;
  no_fewer = subst (λ n. length seen.journal ≤ n) (sym at) (omega arith);
  within = subst (λ n. n ≤ length seen.journal) (sym at) (omega arith);
  command = command;
  command_is = there;
  reply = subst (λ (s : Seen). IsReply s cut command line.reply after) (sym (seen_whole seen line.at at)) is_reply;
  told = told;
}

-- there is a command at each place
pub command_there : (commands : List Command) (place : ℕ) → place < length commands → slice_get commands place ≡ None → ⊥
command_there commands place within none = let other = sym (slice_get-get_or commands place Count within) ∙ none in absurd cc

-- no lines, from the empty cut
pub no_lines : (seen : Seen) (commands : List Command) (traces : ℕ) (lines : List Line) → lines ≡ [] → (cut : List ℕ) × (last : List ℕ) × IsEmptyCut traces cut × LeadTo seen commands 0 (length seen.journal) cut lines last
no_lines seen commands traces lines none = (
  replicate traces 0,
  replicate traces 0,
  record { as_many = length-replicate traces 0; none = All-replicate (λ count. count ≡ 0) traces 0 refl },
  subst (λ ls. LeadTo seen commands 0 (length seen.journal) (replicate traces 0) ls (replicate traces 0)) (sym none) refl,
)

-- what holds where a call gave a value holds where it gave no error
pub where_ok : {T E P : Type 0} (r : Result T E) (failed : Bool) → failed ≡ is_err r → OnOk r P → failed ≡ false → P
where_ok (Ok value) failed is holds none = holds
where_ok (Err error) failed is holds none = let other = sym is ∙ none in absurd cc

-- what was told, in lines that lead from the empty cut
pub told_lines : (seen : Seen) (commands : List Command) (lines gathered : List Line) (memory : Bool) → lines ≡ gathered → (cut last : List ℕ) → IsEmptyCut seen.types.traces cut → LeadTo seen commands 0 (length seen.journal) cut gathered last
    → (memory ≡ false → length gathered ≡ length commands) → IsTold seen commands (length seen.journal) lines memory
told_lines seen commands lines gathered memory same cut last empty leads all = record {
  cut = cut;
  empty = empty;
  lines_are = subst (λ (ls : List Line). AreLinesFrom seen commands 0 (length seen.journal) cut ls) (sym same) (lines_from seen commands 0 (length seen.journal) cut gathered last leads);
  all = λ none. ap (λ (ls : List Line). length ls) same ∙ all none;
}

-- and so no fewer than none
pub told_from_none : (seen : Seen) (commands : List Command) (least : ℕ) (lines : List Line) (memory : Bool) → IsTold seen commands least lines memory → IsTold seen commands 0 lines memory
told_from_none seen commands least [] memory told = record { cut = told.cut; empty = told.empty; lines_are = tt; all = told.all }
told_from_none seen commands least (line ∷ lines) memory told =
    let first = told.lines_are.1 in
    record {
      cut = told.cut;
      empty = told.empty;
      lines_are = (told.lines_are.0, record { place_is = first.place_is; no_fewer = omega arith; within = first.within; command = first.command; command_is = first.command_is; reply = first.reply; told = first.told }, told.lines_are.2);
      all = told.all;
    }

-- one client more
pub told_with : (seen : Seen) (least : ℕ) (scripts : List (List Command)) (reports : List ClientReport) (script : List Command) (report : ClientReport) → AreToldFrom seen least scripts reports → IsTold seen script least report.lines report.memory → AreToldFrom seen least (scripts ++ script ∷ []) (reports ++ report ∷ [])
told_with seen least [] [] script report told is = (is, tt)
told_with seen least [] (other ∷ reports) script report told is = absurd told
told_with seen least (other ∷ scripts) [] script report told is = absurd told
told_with seen least (other ∷ scripts) (one ∷ reports) script report told is = (told.0, told_with seen least scripts reports script report told.1 is)

pub told_many : (seen : Seen) (least : ℕ) (scripts : List (List Command)) (reports : List ClientReport) → AreToldFrom seen least scripts reports → length reports ≡ length scripts
told_many seen least [] [] told = refl
told_many seen least [] (other ∷ reports) told = absurd told
told_many seen least (other ∷ scripts) [] told = absurd told
told_many seen least (other ∷ scripts) (one ∷ reports) told = ap suc (told_many seen least scripts reports told.1)

-- lines on no fewer entries than so many are lines
pub told_whole : (seen : Seen) (least : ℕ) (scripts : List (List Command)) (reports : List ClientReport) → AreToldFrom seen least scripts reports → AreTold seen scripts reports
told_whole seen least [] [] told = tt
told_whole seen least [] (report ∷ reports) told = absurd told
told_whole seen least (script ∷ scripts) [] told = absurd told
told_whole seen least (script ∷ scripts) (report ∷ reports) told = (told_from_none seen script least report.lines report.memory told.0, told_whole seen least scripts reports told.1)
