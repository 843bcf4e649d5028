-- The lines of a client are read in one way, with the journal and the commands, where no such line stands behind them.
use Rattle.std.proofs.Common.{◌≡◌, ◌≢◌, ℕ, ◌^◌, ◌<◌, suc, List, [], ◌∷◌, ◌++◌, length, get_or, take, Some, refl, sym, ◌∙◌, ap, subst, arith, append_assoc}
use Rattle.std.specs.Prelude.{codes, decimal, slice_get}
use Rattle.std.specs.List.{flat_map}
use Rattle.std.proofs.lemmas.List.{append_cancel_left}
use Rattle.answer_text.specs.declared.reply.Reply.{Reply}
use Rattle.answer_text.specs.Texts.{text_of_reply}
use Rattle.causal_base.specs.declared.entry.Entry.{Entry}
use Rattle.causal_base.specs.Clusters.{Clustering}
use Rattle.causal_base.specs.Journal.{IsLegal}
use Rattle.causal_base.specs.Types.{TypeTable}
use Rattle.client_session.specs.declared.command.Command.{Command}
use Rattle.client_session.specs.Replies.{IsReply, seen_of}
use Rattle.poet_serve.specs.declared.report.Line.{Line}
use Rattle.poet_serve.specs.Asking.{AreLinesFrom, IsLine}
use Rattle.run_text.specs.Lines.{text_of_command, text_of_line}
use Rattle.text_laws.proofs.Items.{line_of}
use Rattle.text_laws.proofs.Replies.{Laws, reply_once}
use Rattle.text_laws.proofs.Tokens.{number_once}

-- what stands behind the count of entries
abbrev behind_at : TypeTable → List Command → Line → List ℕ
behind_at types commands line = text_of_command commands line.place ++ (codes " = " ++ text_of_reply types line.reply)

line_parted : (types : TypeTable) (commands : List Command) (line : Line) (rest : List ℕ) → line_of (text_of_line types commands) line ++ rest ≡ codes "at " ++ (decimal line.at ++ 32 ∷ (behind_at types commands line ++ 10 ∷ rest))
line_parted types commands line rest = all (codes "at ") (decimal line.at) (codes " ") (text_of_command commands line.place) (codes " = " ++ text_of_reply types line.reply) (codes "\n") rest
  where
    all : (a b c d e f rest : List ℕ) → ((((a ++ b) ++ (c ++ d)) ++ e) ++ f) ++ rest ≡ a ++ (b ++ (c ++ ((d ++ e) ++ (f ++ rest))))
    all a b c d e f rest = simp append_assoc

module _ (laws : Laws) (types : TypeTable) (clustering : Clustering) (n m : ℕ) (journal : List Entry)
    (legal : (entries : ℕ) → IsLegal types (take entries journal)) (short : length journal < 2 ^ 64) (commands : List Command) where
  same_line : (place least least' : ℕ) (cut : List ℕ) (line other : Line) (after after' : List ℕ) → IsLine (seen_of types clustering n journal) commands place least cut line after → IsLine (seen_of types clustering m journal) commands place least' cut other after' → line.at ≡ other.at → (line ≡ other) × (after ≡ after')
  same_line place least least' cut line other after after' is also at =
      let is_command : slice_get commands place ≡ Some is.command = is.command_is in
      let is_too : slice_get commands place ≡ Some also.command = also.command_is in
      let command : also.command ≡ is.command = cc in
      let places : line.place ≡ other.place = is.place_is ∙ sym also.place_is in
      let shifted : IsReply (seen_of types clustering m (take line.at journal)) cut is.command other.reply after' =
      subst (λ (a : ℕ). IsReply (seen_of types clustering m (take a journal)) cut is.command other.reply after') (sym at)
      (subst (λ (c : Command). IsReply (seen_of types clustering m (take other.at journal)) cut c other.reply after') command also.reply) in
      let once = reply_once laws types clustering n m (take line.at journal) (legal line.at) is.command cut line.reply other.reply after after' is.told also.told is.reply shifted in
      let by_at : ℕ → Line = λ a. record { at = a; place = line.place; reply = line.reply } in
      let by_place : ℕ → Line = λ p. record { at = other.at; place = p; reply = line.reply } in
      let by_reply : Reply → Line = λ r. record { at = other.at; place = other.place; reply = r } in
      (ap by_at at ∙ (ap by_place places ∙ ap by_reply once.0), once.1)

  line_once : (place least least' : ℕ) (cut : List ℕ) (line other : Line) (after after' rest more : List ℕ) → IsLine (seen_of types clustering n journal) commands place least cut line after → IsLine (seen_of types clustering m journal) commands place least' cut other after' → line_of (text_of_line types commands) line ++ rest ≡ line_of (text_of_line types commands) other ++ more → (line ≡ other) × (after ≡ after') × (rest ≡ more)
  line_once place least least' cut line other after after' rest more is also same =
      let parted = append_cancel_left (codes "at ") (decimal line.at ++ 32 ∷ (behind_at types commands line ++ 10 ∷ rest)) (decimal other.at ++ 32 ∷ (behind_at types commands other ++ 10 ∷ more)) (sym (line_parted types commands line rest) ∙ (same ∙ line_parted types commands other more)) in
      let numbers = number_once line.at other.at 32 32 _ _ (omega (arith, is.within, short)) (omega (arith, also.within, short)) (omega arith) (omega arith) parted in
      let lines = same_line place least least' cut line other after after' is also numbers.0 in
      let behind : behind_at types commands line ++ 10 ∷ rest ≡ behind_at types commands line ++ 10 ∷ more =
      numbers.2 ∙ ap (λ (l : Line). behind_at types commands l ++ 10 ∷ more) (sym lines.0) in
      (lines.0, lines.1, append_cancel_left (10 ∷ []) rest more (append_cancel_left (behind_at types commands line) (10 ∷ rest) (10 ∷ more) behind))

  -- the lines from a place on, and what stands behind them
  pub lines_once : (place least least' : ℕ) (cut cut' : List ℕ) (cuts : cut' ≡ cut) (lines others : List Line) (rest more : List ℕ) → AreLinesFrom (seen_of types clustering n journal) commands place least cut lines → AreLinesFrom (seen_of types clustering m journal) commands place least' cut' others → get_or rest 0 0 ≢ 97 → get_or more 0 0 ≢ 97
      → flat_map (line_of (text_of_line types commands)) lines ++ rest ≡ flat_map (line_of (text_of_line types commands)) others ++ more → (lines ≡ others) × (rest ≡ more)
  lines_once place least least' cut cut' cuts [] [] rest more are are_too ends ends_too same = (refl, same)
  lines_once place least least' cut cut' cuts [] (other ∷ others) rest more are are_too ends ends_too same =
      absurd (ends (ap (λ (x : List ℕ). get_or x 0 0) same))
  lines_once place least least' cut cut' cuts (line ∷ lines) [] rest more are are_too ends ends_too same =
      absurd (ends_too (ap (λ (x : List ℕ). get_or x 0 0) (sym same)))
  lines_once place least least' cut cut' cuts (line ∷ lines) (other ∷ others) rest more are are_too ends ends_too same =
      let f = line_of (text_of_line types commands) in
      let parted : f line ++ (flat_map f lines ++ rest) ≡ f other ++ (flat_map f others ++ more) = sym (append_assoc (f line) (flat_map f lines) rest) ∙ (same ∙ append_assoc (f other) (flat_map f others) more) in
      let is_too = subst (λ (c : List ℕ). IsLine (seen_of types clustering m journal) commands place least' c other are_too.0) cuts are_too.1 in
      let first = line_once place least least' cut line other are.0 are_too.0 _ _ are.1 is_too parted in
      let behind = lines_once (suc place) line.at other.at are.0 are_too.0 (sym first.1) lines others rest more are.2 are_too.2 ends ends_too first.2 in
      let one : line ≡ other = first.0 in
      let tail : lines ≡ others = behind.0 in
      (cc, behind.1)
