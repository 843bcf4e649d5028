-- The text of a run is read from its front to its end.
use Rattle.std.proofs.Common.{◌≡◌, ◌≢◌, ℕ, ◌^◌, ◌<◌, Bool, true, false, if◌then◌else◌, List, [], ◌∷◌, ◌++◌, length, get_or, map, take, refl, sym, ◌∙◌, ap, subst, arith, append_assoc, append-nil}
use Rattle.std.specs.Prelude.{codes, decimal, nat_lt}
use Rattle.std.specs.List.{AllByRecursion, list_any}
use Rattle.std.proofs.lemmas.List.{append_cancel_left}
use Rattle.std.proofs.lemmas.List.Concat.{flat_map-append}
use Rattle.std.proofs.lemmas.List.Elements.{All-from_get_or, recursion_from_All}
use Rattle.answer_text.specs.Texts.{text_of_entry}
use Rattle.causal_base.specs.declared.entry.Entry.{Entry}
use Rattle.causal_base.specs.Journal.{IsLegal, came_by, delivered_by}
use Rattle.causal_base.specs.Types.{TypeTable}
use Rattle.causal_base.specs.TypeTables.{IsTypeTable}
use Rattle.client_session.specs.declared.command.Command.{Command}
use Rattle.client_session.specs.Replies.{Seen, seen_of}
use Rattle.cluster_levels.specs.Sizes.{AreSizes}
use Rattle.event_book.specs.Setups.{clustering_of}
use Rattle.poet_serve.specs.Asking.{IsTold}
use Rattle.poet_serve.specs.Collecting.{Told}
use Rattle.poet_serve.specs.Transcripts.{AreTold}
use Rattle.run_text.specs.Lines.{ended_lines, lines_of_clients, lines_of_closing, lines_of_collectors, lines_of_journal, text_of_levels, with_number}
use Rattle.run_text.specs.Runs.{RunTold, held_by, is_full, is_line, is_read, lacked_memory, lines_of_end, lines_of_setup, status_of, text_of}
use Rattle.text_laws.specs.OneReading.{IsOfRun, SaySame}
use Rattle.text_laws.proofs.Clients.{behind_first, clients_begin, clients_once, closing_once, number_passed}
use Rattle.text_laws.proofs.CollectorLines.{collectors_once}
use Rattle.text_laws.proofs.Counts.{told_is_readable}
use Rattle.text_laws.proofs.Entries.{HasLSecond, IsReadable, entries_are_read}
use Rattle.text_laws.proofs.Items.{items_once, line_of}
use Rattle.text_laws.proofs.Journals.{journal_is_readable, journal_is_short, legal_taken}
use Rattle.text_laws.proofs.Levels.{levels_once}
use Rattle.text_laws.proofs.Replies.{Laws}
use Rattle.text_laws.proofs.Tokens.{number_once}

-- lines and then more lines
ended-append : (first second : List (List ℕ)) → ended_lines (first ++ second) ≡ ended_lines first ++ ended_lines second
ended-append first second = flat_map-append (λ line. line ++ codes "\n") first second

-- six parts, one behind the other
ended-parts : (a b c d e f : List (List ℕ)) → ended_lines (a ++ b ++ c ++ d ++ e ++ f) ≡ ended_lines a ++ (ended_lines b ++ (ended_lines c ++ (ended_lines d ++ (ended_lines e ++ ended_lines f))))
ended-parts a b c d e f =
    rw (ended-append (a ++ b ++ c ++ d ++ e) f, ended-append (a ++ b ++ c ++ d) e, ended-append (a ++ b ++ c) d, ended-append (a ++ b) c, ended-append a b)
    (regroup (ended_lines a) (ended_lines b) (ended_lines c) (ended_lines d) (ended_lines e) (ended_lines f))
  where
    regroup : (u v w x y z : List ℕ) → ((((u ++ v) ++ w) ++ x) ++ y) ++ z ≡ u ++ (v ++ (w ++ (x ++ (y ++ z))))
    regroup u v w x y z = simp append_assoc

-- the parts of the text, from the last one on
abbrev from_end : RunTold → List ℕ
from_end told = ended_lines (lines_of_end told)

abbrev from_collectors : RunTold → List ℕ
from_collectors told = ended_lines (lines_of_collectors told.collectors) ++ from_end told

abbrev from_closing : RunTold → List ℕ
from_closing told = ended_lines (lines_of_closing told.setup.types told.last told.closing) ++ from_collectors told

abbrev from_clients : RunTold → List ℕ
from_clients told = ended_lines (lines_of_clients told.setup.types told.scripts told.clients) ++ from_closing told

abbrev from_journal : RunTold → List ℕ
from_journal told = ended_lines (lines_of_journal told.setup.types told.journal) ++ from_clients told

text_parted : (told : RunTold) → text_of told ≡ ended_lines (lines_of_setup told.setup) ++ from_journal told
text_parted told = ended-parts (lines_of_setup told.setup) (lines_of_journal told.setup.types told.journal) (lines_of_clients told.setup.types told.scripts told.clients) (lines_of_closing told.setup.types told.last told.closing) (lines_of_collectors told.collectors) (lines_of_end told)

-- two lines with their ends
two_lines : (a b rest : List ℕ) → ended_lines (a ∷ b ∷ []) ++ rest ≡ (a ++ codes "\n") ++ ((b ++ codes "\n") ++ rest)
two_lines a b rest =
    append_assoc (a ++ codes "\n") ((b ++ codes "\n") ++ []) rest
    ∙ ap (λ (x : List ℕ). (a ++ codes "\n") ++ (x ++ rest)) (append-nil (b ++ codes "\n"))

-- the sizes are small
sizes_fit : (sizes : List ℕ) → AreSizes sizes → AllByRecursion (λ n. n < 2 ^ 64) sizes
sizes_fit sizes are = recursion_from_All (λ n. n < 2 ^ 64) sizes (All-from_get_or (λ n. n < 2 ^ 64) sizes 0 (λ i within. let small = are.small i within in omega (arith, small)))

-- the first byte of what is told of collectors
no_line_behind : (told : RunTold) → get_or (from_collectors told) 0 0 ≢ 97
no_line_behind told = none told.collectors (from_end told) refl
  where
    none : (all : List Told) (rest : List ℕ) → get_or rest 0 0 ≡ 104 → get_or (ended_lines (lines_of_collectors all) ++ rest) 0 0 ≢ 97
    none [] rest held is = omega (arith, held, is)
    none (one ∷ all) rest held is = let wrong : 99 ≡ 97 = is in omega (arith, wrong)

-- the status is small
status_is_small : (told : RunTold) → status_of told < 2 ^ 64
status_is_small told = small (list_any (λ one. is_read one.stop) told.collectors) (list_any (λ one. is_line one.stop) told.collectors) (list_any (λ one. is_full one.stop) told.collectors) (lacked_memory told) (list_any (λ one. nat_lt 0 one.clashes) told.collectors) (nat_lt (length (delivered_by told.journal)) (length (came_by told.journal)))
  where
    small : (a b c d e f : Bool) → (if a then 2 else (if b then 6 else (if c then 8 else (if d then 7 else (if e then 9 else (if f then 10 else 0)))))) < 2 ^ 64
    small true b c d e f = omega arith
    small false true c d e f = omega arith
    small false false true d e f = omega arith
    small false false false true e f = omega arith
    small false false false false true f = omega arith
    small false false false false false true = omega arith
    small false false false false false false = omega arith

-- how many are held, and the status
end_once : (h k s t : ℕ) → s < 2 ^ 64 → t < 2 ^ 64 → ended_lines (with_number (codes "held ") h ∷ with_number (codes "status ") s ∷ []) ≡ ended_lines (with_number (codes "held ") k ∷ with_number (codes "status ") t ∷ []) → s ≡ t
end_once h k s t fits fits_too same =
    let shown = sym (two_lines (with_number (codes "held ") h) (with_number (codes "status ") s) []) ∙ (ap (λ (x : List ℕ). x ++ []) same ∙ two_lines (with_number (codes "held ") k) (with_number (codes "status ") t) []) in
    let last = number_passed (codes "held ") h k _ _ shown in
    let parted : decimal s ++ 10 ∷ [] ≡ decimal t ++ 10 ∷ [] = append_cancel_left (codes "status ") _ _ (sym (three (codes "status ") (decimal s) (codes "\n") []) ∙ (last ∙ three (codes "status ") (decimal t) (codes "\n") [])) in
    (number_once s t 10 10 [] [] fits fits_too (omega arith) (omega arith) parted).0
  where
    three : (x y z rest : List ℕ) → ((x ++ y) ++ z) ++ rest ≡ x ++ (y ++ (z ++ rest))
    three x y z rest = simp append_assoc

-- what another run says, to somebody who knows this target and these scripts
abbrev pub as_of : TypeTable → List (List Command) → List Command → RunTold → RunTold
as_of types scripts last other = record {
  setup = record { types = types; sizes = other.setup.sizes; collectors = other.setup.collectors; after = other.setup.after };
  journal = other.journal;
  scripts = scripts;
  clients = other.clients;
  last = last;
  closing = other.closing;
  collectors = other.collectors;
}

-- what is seen of the journal of a run
abbrev seen_of_run : TypeTable → ℕ → (sizes : List ℕ) → (after : ℕ) → List Entry → Seen
seen_of_run types collectors sizes after journal =
    seen_of types (record { traces = types.traces; sizes = sizes; after = after }) collectors journal

seen_is : (types : TypeTable) (collectors : ℕ) (sizes others : List ℕ) (after another : ℕ) (journal other : List Entry) → sizes ≡ others → after ≡ another → journal ≡ other → seen_of_run types collectors others another other ≡ seen_of_run types collectors sizes after journal
seen_is types collectors sizes others after another journal other same_sizes same_after same_journal =
    ap (λ (x : List ℕ). seen_of_run types collectors x another other) (sym same_sizes)
    ∙ (ap (λ (x : ℕ). seen_of_run types collectors sizes x other) (sym same_after)
    ∙ ap (λ (x : List Entry). seen_of_run types collectors sizes after x) (sym same_journal))

module _ (laws : Laws) (told other : RunTold) (table : IsTypeTable told.setup.types) (of : IsOfRun told) (of_other : IsOfRun (as_of told.setup.types told.scripts told.last other)) where
  -- the other run, told with the types and scripts of this one
  abbrev again : RunTold
  again = as_of told.setup.types told.scripts told.last other

  readable : AllByRecursion (IsReadable told.setup.types) told.journal
  readable = journal_is_readable told.setup.types told.setup.collectors told.journal of.is_setup.most of.is_transcript.is_journal.legal of.is_transcript.is_journal.of_collectors

  readable_too : AllByRecursion (IsReadable told.setup.types) other.journal
  readable_too = journal_is_readable told.setup.types other.setup.collectors other.journal of_other.is_setup.most of_other.is_transcript.is_journal.legal of_other.is_transcript.is_journal.of_collectors

  short : length told.journal < 2 ^ 64
  short = journal_is_short told.setup.types told.setup.collectors told.journal of.is_setup.most of.is_transcript.is_journal.legal of.is_transcript.is_journal.few of.is_transcript.is_journal.of_collectors

  levels_told : text_of told ≡ text_of again → (told.setup.sizes ≡ other.setup.sizes) × (told.setup.after ≡ other.setup.after) × (from_journal told ≡ from_journal again)
  levels_told same =
      let traces = with_number (codes "traces ") told.setup.types.traces in
      let shown = sym (two_lines traces (text_of_levels told.setup.sizes told.setup.after) (from_journal told)) ∙ (sym (text_parted told) ∙ (same ∙ (text_parted again ∙ two_lines traces (text_of_levels other.setup.sizes other.setup.after) (from_journal again)))) in
      levels_once told.setup.sizes other.setup.sizes told.setup.after other.setup.after (from_journal told) (from_journal again)
      (sizes_fit told.setup.sizes of.is_setup.sizes) (sizes_fit other.setup.sizes of_other.is_setup.sizes) (let fits = of.after in omega (arith, fits)) (let fits = of_other.after in omega (arith, fits))
      (append_cancel_left (traces ++ codes "\n") _ _ shown)

  journal_told : from_journal told ≡ from_journal again → (told.journal ≡ other.journal) × (from_clients told ≡ from_clients again)
  journal_told same =
      let shown = sym (behind_first (with_number (codes "journal ") (length told.journal)) (text_of_entry told.setup.types) told.journal (from_clients told)) ∙ (same ∙ behind_first (with_number (codes "journal ") (length other.journal)) (text_of_entry told.setup.types) other.journal (from_clients again)) in
      let passed = number_passed (codes "journal ") (length told.journal) (length other.journal) _ _ shown in
      items_once (line_of (text_of_entry told.setup.types)) (IsReadable told.setup.types) (λ bytes. Unit {0}) HasLSecond (entries_are_read told.setup.types table) told.journal other.journal (from_clients told) (from_clients again) readable readable_too
      (clients_begin told.setup.types 0 told.scripts told.clients (from_closing told) (refl, refl)).1
      (clients_begin told.setup.types 0 told.scripts other.clients (from_closing again) (refl, refl)).1 passed

  module _ (sizes : told.setup.sizes ≡ other.setup.sizes) (after : told.setup.after ≡ other.setup.after) (journal : told.journal ≡ other.journal) where
    moved : seen_of_run told.setup.types other.setup.collectors other.setup.sizes other.setup.after other.journal ≡ seen_of_run told.setup.types other.setup.collectors told.setup.sizes told.setup.after told.journal
    moved = seen_is told.setup.types other.setup.collectors told.setup.sizes other.setup.sizes told.setup.after other.setup.after told.journal other.journal sizes after journal

    legal_each : (entries : ℕ) → IsLegal told.setup.types (take entries told.journal)
    legal_each = legal_taken told.setup.types told.journal of.is_transcript.is_journal.legal

    clients_told : from_clients told ≡ from_clients again → (map (λ client. client.lines) told.clients ≡ map (λ client. client.lines) other.clients) × (from_closing told ≡ from_closing again)
    clients_told same =
        clients_once laws told.setup.types (clustering_of told.setup) told.setup.collectors other.setup.collectors told.journal legal_each short 0 0 0 told.scripts told.clients other.clients (from_closing told) (from_closing again)
        of.is_transcript.clients_are (subst (λ (seen : Seen). AreTold seen told.scripts other.clients) moved of_other.is_transcript.clients_are) (refl, refl) (refl, refl) same

    closing_told : from_closing told ≡ from_closing again → (told.closing.lines ≡ other.closing.lines) × (from_collectors told ≡ from_collectors again)
    closing_told same =
        closing_once laws told.setup.types (clustering_of told.setup) told.setup.collectors other.setup.collectors told.journal legal_each short (length told.journal) (length other.journal) told.last told.closing other.closing (from_collectors told) (from_collectors again)
        of.is_transcript.closing_is (subst (λ (seen : Seen). IsTold seen told.last (length other.journal) other.closing.lines other.closing.memory) moved of_other.is_transcript.closing_is) (no_line_behind told) (no_line_behind again) same

  collectors_told : from_collectors told ≡ from_collectors again → (told.collectors ≡ other.collectors) × (from_end told ≡ from_end again)
  collectors_told same = collectors_once 0 told.collectors other.collectors (from_end told) (from_end again)
      (told_is_readable told of table.most_traces) (told_is_readable again of_other table.most_traces) (refl, refl) (refl, refl) same

  -- so all of it is the same
  all_told : text_of told ≡ text_of again → SaySame told other
  all_told same =
      let levels = levels_told same in
      let journals = journal_told levels.2 in
      let clients = clients_told levels.0 levels.1 journals.0 journals.1 in
      let closings = closing_told levels.0 levels.1 journals.0 clients.1 in
      let collectors = collectors_told closings.1 in
      record {
        sizes = levels.0;
        after = levels.1;
        journal = journals.0;
        clients = clients.0;
        closing = closings.0;
        collectors = collectors.0;
        status = end_once (held_by told.journal) (held_by other.journal) (status_of told) (status_of again) (status_is_small told) (status_is_small again) collectors.1;
      }

-- what is known where the types and the scripts are the same
abbrev Known : RunTold → RunTold → TypeTable → List (List Command) → List Command → Type 0
Known told other types scripts last = IsOfRun (as_of types scripts last other) × (text_of told ≡ text_of (as_of types scripts last other))

-- runs of one target and the same scripts with one text say the same
pub say_same : Laws → (told other : RunTold) → told.setup.types ≡ other.setup.types → IsTypeTable told.setup.types → told.scripts ≡ other.scripts → told.last ≡ other.last → IsOfRun told → IsOfRun other → text_of told ≡ text_of other → SaySame told other
say_same laws told other types table scripts last of of_other same =
    let known : Known told other other.setup.types other.scripts other.last = (of_other, same) in
    let by_types : Known told other told.setup.types other.scripts other.last = subst (λ (t : TypeTable). Known told other t other.scripts other.last) (sym types) known in
    let by_scripts : Known told other told.setup.types told.scripts other.last = subst (λ (s : List (List Command)). Known told other told.setup.types s other.last) (sym scripts) by_types in
    let by_last : Known told other told.setup.types told.scripts told.last = subst (λ (l : List Command). Known told other told.setup.types told.scripts l) (sym last) by_scripts in
    all_told laws told other table of by_last.0 by_last.1
