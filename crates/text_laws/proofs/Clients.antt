-- What clients and the closing script were told is read in one way.
use Rattle.std.proofs.Common.{◌≡◌, ◌≢◌, ℕ, ◌+◌, ◌^◌, ◌<◌, List, [], ◌∷◌, ◌++◌, length, get_or, map, take, refl, sym, ◌∙◌, ap, arith, append_assoc}
use Rattle.std.specs.Prelude.{codes, decimal}
use Rattle.std.specs.List.{enumerate_from, flat_map, zip}
use Rattle.std.proofs.lemmas.List.{append_cancel_left}
use Rattle.std.proofs.lemmas.List.Concat.{flat_map-append}
use Rattle.causal_base.specs.declared.entry.Entry.{Entry}
use Rattle.causal_base.specs.Clusters.{Clustering}
use Rattle.causal_base.specs.Journal.{IsLegal}
use Rattle.causal_base.specs.Types.{TypeTable}
use Rattle.client_session.specs.declared.command.Command.{Command}
use Rattle.client_session.specs.Replies.{seen_of}
use Rattle.poet_serve.specs.declared.report.ClientReport.{ClientReport}
use Rattle.poet_serve.specs.declared.report.Line.{Line}
use Rattle.poet_serve.specs.Asking.{IsTold}
use Rattle.poet_serve.specs.Transcripts.{AreToldFrom}
use Rattle.run_text.specs.Lines.{ended_lines, lines_of_client, lines_of_closing, text_of_client, text_of_line, with_number}
use Rattle.text_laws.proofs.Items.{ended-map, line_of}
use Rattle.text_laws.proofs.CutsOnce.{empty_once}
use Rattle.text_laws.proofs.Lines.{lines_once}
use Rattle.text_laws.proofs.Replies.{Laws}
use Rattle.text_laws.proofs.Tokens.{decimal_is_high, high_once}

-- behind the same bytes and a number, each with the end of its line, is the same
pub number_passed : (front : List ℕ) (k l : ℕ) (rest more : List ℕ) → ((front ++ decimal k) ++ codes "\n") ++ rest ≡ ((front ++ decimal l) ++ codes "\n") ++ more → rest ≡ more
number_passed front k l rest more same =
    let parted : decimal k ++ 10 ∷ rest ≡ decimal l ++ 10 ∷ more = append_cancel_left front _ _ (sym (three front (decimal k) (codes "\n") rest) ∙ (same ∙ three front (decimal l) (codes "\n") more)) in
    (high_once (decimal k) (decimal l) 10 10 rest more (decimal_is_high k) (decimal_is_high l) (omega arith) (omega arith) parted).2
  where
    three : (x y z rest : List ℕ) → ((x ++ y) ++ z) ++ rest ≡ x ++ (y ++ (z ++ rest))
    three x y z rest = simp append_assoc

-- the first line of a client
head_passed : (n k l : ℕ) (rest more : List ℕ) → (text_of_client n k ++ codes "\n") ++ rest ≡ (text_of_client n l ++ codes "\n") ++ more → rest ≡ more
head_passed n k l rest more same =
    number_passed (with_number (codes "client ") n ++ codes " ") k l rest more
    (ap (λ (x : List ℕ). (x ++ codes "\n") ++ rest) (append_assoc (with_number (codes "client ") n) (codes " ") (decimal k))
    ∙ (same ∙ sym (ap (λ (x : List ℕ). (x ++ codes "\n") ++ more) (append_assoc (with_number (codes "client ") n) (codes " ") (decimal l)))))

-- lines behind a first one
pub behind_first : (first : List ℕ) {X : Type 0} (text : X → List ℕ) (xs : List X) (rest : List ℕ) → ended_lines (first ∷ map text xs) ++ rest ≡ (first ++ codes "\n") ++ (flat_map (line_of text) xs ++ rest)
behind_first first text xs rest =
    append_assoc (first ++ codes "\n") (ended_lines (map text xs)) rest
    ∙ ap (λ (x : List ℕ). (first ++ codes "\n") ++ (x ++ rest)) (ended-map text xs)

-- the lines of each client, from this number on
abbrev pub clients_from : TypeTable → ℕ → List (List Command) → List ClientReport → List (List ℕ)
clients_from types number scripts clients =
    flat_map (λ one. lines_of_client types one.0 one.1.0 one.1.1) (enumerate_from number (zip scripts clients))

from_parted : (types : TypeTable) (number : ℕ) (commands : List Command) (scripts : List (List Command)) (report : ClientReport) (clients : List ClientReport) (rest : List ℕ) → ended_lines (clients_from types number (commands ∷ scripts) (report ∷ clients)) ++ rest ≡ ended_lines (lines_of_client types number commands report) ++ (ended_lines (clients_from types (number + 1) scripts clients) ++ rest)
from_parted types number commands scripts report clients rest =
    ap (λ (x : List ℕ). x ++ rest) (flat_map-append (λ line. line ++ codes "\n") (lines_of_client types number commands report) (clients_from types (number + 1) scripts clients))
    ∙ append_assoc (ended_lines (lines_of_client types number commands report)) (ended_lines (clients_from types (number + 1) scripts clients)) rest

-- the bytes begin with "cl", as the lines of a client and of the closing script
abbrev pub BeginsAsClient : List ℕ → Type 0
BeginsAsClient bytes = (get_or bytes 0 0 ≡ 99) × (get_or bytes 1 0 ≡ 108)

pub clients_begin : (types : TypeTable) (number : ℕ) (scripts : List (List Command)) (clients : List ClientReport) (rest : List ℕ) → BeginsAsClient rest → BeginsAsClient (ended_lines (clients_from types number scripts clients) ++ rest)
clients_begin types number [] clients rest begins = begins
clients_begin types number (commands ∷ scripts) [] rest begins = begins
clients_begin types number (commands ∷ scripts) (report ∷ clients) rest begins = (refl, refl)

no_line : (bytes : List ℕ) → BeginsAsClient bytes → get_or bytes 0 0 ≢ 97
no_line bytes begins is = omega (arith, begins.0, is)

-- the lines of clients
abbrev pub lines_told : List ClientReport → List (List Line)
lines_told clients = map (λ client. client.lines) clients

module _ (laws : Laws) (types : TypeTable) (clustering : Clustering) (n m : ℕ) (journal : List Entry)
    (legal : (entries : ℕ) → IsLegal types (take entries journal)) (short : length journal < 2 ^ 64) where
  pub clients_once : (number least least' : ℕ) (scripts : List (List Command)) (clients others : List ClientReport) (rest more : List ℕ) → AreToldFrom (seen_of types clustering n journal) least scripts clients → AreToldFrom (seen_of types clustering m journal) least' scripts others → BeginsAsClient rest → BeginsAsClient more
      → ended_lines (clients_from types number scripts clients) ++ rest ≡ ended_lines (clients_from types number scripts others) ++ more → (lines_told clients ≡ lines_told others) × (rest ≡ more)
  clients_once number least least' [] [] [] rest more told told_too begins begins_too same = (refl, same)
  clients_once number least least' [] [] (other ∷ others) rest more told told_too begins begins_too same = absurd told_too
  clients_once number least least' [] (report ∷ clients) others rest more told told_too begins begins_too same = absurd told
  clients_once number least least' (commands ∷ scripts) [] others rest more told told_too begins begins_too same = absurd told
  clients_once number least least' (commands ∷ scripts) (report ∷ clients) [] rest more told told_too begins begins_too same = absurd told_too
  clients_once number least least' (commands ∷ scripts) (report ∷ clients) (other ∷ others) rest more told told_too begins begins_too same =
      let parted = sym (from_parted types number commands scripts report clients rest) ∙ (same ∙ from_parted types number commands scripts other others more) in
      let headed = sym (behind_first (text_of_client number (length report.lines)) (text_of_line types commands) report.lines _) ∙ (parted ∙ behind_first (text_of_client number (length other.lines)) (text_of_line types commands) other.lines _) in
      let passed = head_passed number (length report.lines) (length other.lines) _ _ headed in
      let first = lines_once laws types clustering n m journal legal short commands 0 least least' told.0.cut told_too.0.cut (empty_once types.traces told_too.0.cut told.0.cut told_too.0.empty told.0.empty) report.lines other.lines _ _ told.0.lines_are told_too.0.lines_are
      (no_line (ended_lines (clients_from types (number + 1) scripts clients) ++ rest) (clients_begin types (number + 1) scripts clients rest begins)) (no_line (ended_lines (clients_from types (number + 1) scripts others) ++ more) (clients_begin types (number + 1) scripts others more begins_too)) passed in
      let behind = clients_once (number + 1) least least' scripts clients others rest more told.1 told_too.1 begins begins_too first.1 in
      let one : report.lines ≡ other.lines = first.0 in
      let tail : lines_told clients ≡ lines_told others = behind.0 in
      (cc, behind.1)

  -- the lines of the closing script, and what stands behind them
  pub closing_once : (least least' : ℕ) (commands : List Command) (report other : ClientReport) (rest more : List ℕ) → IsTold (seen_of types clustering n journal) commands least report.lines report.memory → IsTold (seen_of types clustering m journal) commands least' other.lines other.memory → get_or rest 0 0 ≢ 97 → get_or more 0 0 ≢ 97
      → ended_lines (lines_of_closing types commands report) ++ rest ≡ ended_lines (lines_of_closing types commands other) ++ more → (report.lines ≡ other.lines) × (rest ≡ more)
  closing_once least least' commands report other rest more told told_too ends ends_too same =
      let headed = sym (behind_first (with_number (codes "closing ") (length report.lines)) (text_of_line types commands) report.lines rest) ∙ (same ∙ behind_first (with_number (codes "closing ") (length other.lines)) (text_of_line types commands) other.lines more) in
      let passed = number_passed (codes "closing ") (length report.lines) (length other.lines) _ _ headed in
      lines_once laws types clustering n m journal legal short commands 0 least least' told.cut told_too.cut (empty_once types.traces told_too.cut told.cut told_too.empty told.empty) report.lines other.lines rest more told.lines_are told_too.lines_are ends ends_too passed
