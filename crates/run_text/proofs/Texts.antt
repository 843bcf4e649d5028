-- The text of a run, part by part.
use Rattle.std.proofs.Common.{◌≡◌, ℕ, List, [], ◌++◌, sym, subst}
use Rattle.poet_io.specs.SinkState.{SinkState}
use Rattle.poet_io.specs.Writes.{IsCutShort}
use Rattle.poet_io.proofs.CallerLemmas.{cut_more}
use Rattle.text_buffer.specs.Gathering.{HasCome}
use Rattle.text_buffer.proofs.CallerLemmas.{IsCutBehind, cut_after_come}
use Rattle.run_text.specs.Lines.{ended_lines, lines_of_clients, lines_of_closing, lines_of_collectors, lines_of_journal}
use Rattle.run_text.specs.Runs.{RunTold, lines_of_end, lines_of_setup, text_of}
use Rattle.run_text.proofs.Lines.{ended-parts}

abbrev pub setup_part : RunTold → List ℕ
setup_part told = ended_lines (lines_of_setup told.setup)

abbrev pub journal_part : RunTold → List ℕ
journal_part told = ended_lines (lines_of_journal told.setup.types told.journal)

abbrev pub clients_part : RunTold → List ℕ
clients_part told = ended_lines (lines_of_clients told.setup.types told.scripts told.clients)

abbrev pub closing_part : RunTold → List ℕ
closing_part told = ended_lines (lines_of_closing told.setup.types told.last told.closing)

abbrev pub collectors_part : RunTold → List ℕ
collectors_part told = ended_lines (lines_of_collectors told.collectors)

abbrev pub end_part : RunTold → List ℕ
end_part told = ended_lines (lines_of_end told)

module _ (told : RunTold) where
  -- the text in its parts
  pub text-parted : text_of told ≡ setup_part told ++ journal_part told ++ clients_part told ++ closing_part told ++ collectors_part told ++ end_part told
  text-parted = ended-parts (lines_of_setup told.setup) (lines_of_journal told.setup.types told.journal) (lines_of_clients told.setup.types told.scripts told.clients) (lines_of_closing told.setup.types told.last told.closing) (lines_of_collectors told.collectors) (lines_of_end told)

  module _ {start a b : SinkState} {gathered : List ℕ} where
    -- a part was cut short, and with it the text
    pub cut_in_setup : HasCome start a gathered [] → IsCutBehind a gathered b (setup_part told) → IsCutShort start b (text_of told)
    cut_in_setup come cut = subst (IsCutShort start b) (sym text-parted)
        (cut_more (end_part told) (cut_more (collectors_part told) (cut_more (closing_part told) (cut_more (clients_part told) (cut_more (journal_part told)
        (cut_after_come come cut))))))

    pub cut_in_journal : HasCome start a gathered (setup_part told) → IsCutBehind a gathered b (journal_part told) → IsCutShort start b (text_of told)
    cut_in_journal come cut = subst (IsCutShort start b) (sym text-parted)
        (cut_more (end_part told) (cut_more (collectors_part told) (cut_more (closing_part told) (cut_more (clients_part told)
        (cut_after_come come cut)))))

    pub cut_in_clients : HasCome start a gathered (setup_part told ++ journal_part told) → IsCutBehind a gathered b (clients_part told) → IsCutShort start b (text_of told)
    cut_in_clients come cut = subst (IsCutShort start b) (sym text-parted)
        (cut_more (end_part told) (cut_more (collectors_part told) (cut_more (closing_part told)
        (cut_after_come come cut))))

    pub cut_in_closing : HasCome start a gathered (setup_part told ++ journal_part told ++ clients_part told) → IsCutBehind a gathered b (closing_part told) → IsCutShort start b (text_of told)
    cut_in_closing come cut = subst (IsCutShort start b) (sym text-parted)
        (cut_more (end_part told) (cut_more (collectors_part told)
        (cut_after_come come cut)))

    pub cut_in_collectors : HasCome start a gathered (setup_part told ++ journal_part told ++ clients_part told ++ closing_part told) → IsCutBehind a gathered b (collectors_part told) → IsCutShort start b (text_of told)
    cut_in_collectors come cut = subst (IsCutShort start b) (sym text-parted)
        (cut_more (end_part told)
        (cut_after_come come cut))

    pub cut_in_end : HasCome start a gathered (setup_part told ++ journal_part told ++ clients_part told ++ closing_part told ++ collectors_part told) → IsCutBehind a gathered b (end_part told) → IsCutShort start b (text_of told)
    cut_in_end come cut = subst (IsCutShort start b) (sym text-parted) (cut_after_come come cut)
