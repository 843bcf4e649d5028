-- The entries of a legal journal are read in one way, where no entry stands behind them.
use Rattle.std.proofs.Common.{◌≡◌, ℕ, ◌^◌, ◌<◌, List, ◌∷◌, ◌++◌, get_or, refl, sym, ◌∙◌, ap, arith, append_assoc}
use Rattle.std.specs.Prelude.{codes, decimal}
use Rattle.std.proofs.lemmas.List.{append_cancel_left}
use Rattle.answer_text.specs.Texts.{text_of_entry}
use Rattle.causal_base.specs.declared.entry.Entry.{Entry}
use Rattle.causal_base.specs.declared.entry.Entry.TheVariants.{Came, Gone, Pair, Ended}
use Rattle.causal_base.specs.declared.event.Event.{Event}
use Rattle.causal_base.specs.declared.event_id.EventId.{EventId}
use Rattle.causal_base.specs.Event.{IsFit, IsInRange}
use Rattle.causal_base.specs.Spelling.{id_text, spelling}
use Rattle.causal_base.specs.Types.{TypeTable}
use Rattle.causal_base.specs.TypeTables.{IsTypeTable}
use Rattle.text_laws.proofs.Items.{AreRead, line_of}
use Rattle.text_laws.proofs.Tokens.{number_once}
use Rattle.text_laws.proofs.Events.{event_once, range_once}

-- What the entry tells can be read: an event that came is fit, ids are in range, and a collector's
-- number fits.
abbrev pub IsReadable : TypeTable → Entry → Type 0
IsReadable types (Came collector e) = (collector < 2 ^ 64) × IsFit types e
IsReadable types (Gone id) = IsInRange types id
IsReadable types (Pair a b) = IsInRange types a × IsInRange types b
IsReadable types (Ended collector) = collector < 2 ^ 64

-- an entry with its line feed
abbrev ended : TypeTable → Entry → List ℕ
ended types = line_of (text_of_entry types)

-- parts of an ended line, one behind the other
two_parted : (a b end rest : List ℕ) → ((a ++ b) ++ end) ++ rest ≡ a ++ (b ++ (end ++ rest))
two_parted a b end rest = simp append_assoc

four_parted : (a b c d end rest : List ℕ) → (((a ++ b) ++ (c ++ d)) ++ end) ++ rest ≡ a ++ (b ++ (c ++ (d ++ (end ++ rest))))
four_parted a b c d end rest = simp append_assoc

came_parted : (types : TypeTable) (collector : ℕ) (e : Event) (rest : List ℕ) → ended types (Came collector e) ++ rest ≡ codes "came " ++ (decimal collector ++ 32 ∷ (spelling types e ++ 10 ∷ rest))
came_parted types collector e rest = four_parted (codes "came ") (decimal collector) (codes " ") (spelling types e) (codes "\n") rest

gone_parted : (types : TypeTable) (id : EventId) (rest : List ℕ) → ended types (Gone id) ++ rest ≡ codes "gone " ++ (id_text id ++ 10 ∷ rest)
gone_parted types id rest = two_parted (codes "gone ") (id_text id) (codes "\n") rest

pair_parted : (types : TypeTable) (a b : EventId) (rest : List ℕ) → ended types (Pair a b) ++ rest ≡ codes "pair " ++ (id_text a ++ 32 ∷ (id_text b ++ 10 ∷ rest))
pair_parted types a b rest = four_parted (codes "pair ") (id_text a) (codes " ") (id_text b) (codes "\n") rest

ended_parted : (types : TypeTable) (collector : ℕ) (rest : List ℕ) → ended types (Ended collector) ++ rest ≡ codes "ended " ++ (decimal collector ++ 10 ∷ rest)
ended_parted types collector rest = two_parted (codes "ended ") (decimal collector) (codes "\n") rest

-- the first two bytes of an entry
abbrev first_byte : Entry → ℕ
first_byte (Came collector e) = 99
first_byte (Gone id) = 103
first_byte (Pair a b) = 112
first_byte (Ended collector) = 101

abbrev second_byte : Entry → ℕ
second_byte (Came collector e) = 97
second_byte (Gone id) = 111
second_byte (Pair a b) = 97
second_byte (Ended collector) = 110

first_is : (types : TypeTable) (entry : Entry) (rest : List ℕ) → get_or (ended types entry ++ rest) 0 0 ≡ first_byte entry
first_is types (Came collector e) rest = refl
first_is types (Gone id) rest = refl
first_is types (Pair a b) rest = refl
first_is types (Ended collector) rest = refl

second_is : (types : TypeTable) (entry : Entry) (rest : List ℕ) → get_or (ended types entry ++ rest) 1 0 ≡ second_byte entry
second_is types (Came collector e) rest = refl
second_is types (Gone id) rest = refl
second_is types (Pair a b) rest = refl
second_is types (Ended collector) rest = refl

-- an entry, and what stands behind it
entry_once : (types : TypeTable) (a b : Entry) (rest more : List ℕ) → IsTypeTable types → IsReadable types a → IsReadable types b → ended types a ++ rest ≡ ended types b ++ more → (a ≡ b) × (rest ≡ more)
entry_once types (Came n a) (Came m b) rest more table read read_too same =
    let parted : decimal n ++ 32 ∷ (spelling types a ++ 10 ∷ rest) ≡ decimal m ++ 32 ∷ (spelling types b ++ 10 ∷ more) =
    append_cancel_left (codes "came ") _ _ (sym (came_parted types n a rest) ∙ (same ∙ came_parted types m b more)) in
    let numbers = number_once n m 32 32 _ _ read.0 read_too.0 (omega arith) (omega arith) parted in
    let events = event_once types a b rest more table read.1 read_too.1 numbers.2 in
    let is : n ≡ m = numbers.0 in
    let event : a ≡ b = events.0 in
    (cc, events.1)
entry_once types (Gone a) (Gone b) rest more table read read_too same =
    let parted : id_text a ++ 10 ∷ rest ≡ id_text b ++ 10 ∷ more =
    append_cancel_left (codes "gone ") _ _ (sym (gone_parted types a rest) ∙ (same ∙ gone_parted types b more)) in
    let ids = range_once types a b 10 10 rest more table.most_traces read read_too (omega arith) (omega arith) parted in
    (ap Gone ids.0, ids.2)
entry_once types (Pair a c) (Pair b d) rest more table read read_too same =
    let parted : id_text a ++ 32 ∷ (id_text c ++ 10 ∷ rest) ≡ id_text b ++ 32 ∷ (id_text d ++ 10 ∷ more) =
    append_cancel_left (codes "pair ") _ _ (sym (pair_parted types a c rest) ∙ (same ∙ pair_parted types b d more)) in
    let firsts = range_once types a b 32 32 _ _ table.most_traces read.0 read_too.0 (omega arith) (omega arith) parted in
    let seconds = range_once types c d 10 10 rest more table.most_traces read.1 read_too.1 (omega arith) (omega arith) firsts.2 in
    let one : a ≡ b = firsts.0 in
    let another : c ≡ d = seconds.0 in
    (cc, seconds.2)
entry_once types (Ended n) (Ended m) rest more table read read_too same =
    let parted : decimal n ++ 10 ∷ rest ≡ decimal m ++ 10 ∷ more =
    append_cancel_left (codes "ended ") _ _ (sym (ended_parted types n rest) ∙ (same ∙ ended_parted types m more)) in
    let numbers = number_once n m 10 10 rest more read read_too (omega arith) (omega arith) parted in
    (ap Ended numbers.0, numbers.2)
entry_once types a b rest more table read read_too same =
    let wrong : first_byte a ≡ first_byte b = sym (first_is types a rest) ∙ (ap (λ (bytes : List ℕ). get_or bytes 0 0) same ∙ first_is types b more) in
    absurd (omega (arith, wrong))

-- the second byte of no entry is an `l`
no_l : (entry : Entry) → second_byte entry ≡ 108 → ⊥
no_l (Came collector e) is = omega (arith, is)
no_l (Gone id) is = omega (arith, is)
no_l (Pair a b) is = omega (arith, is)
no_l (Ended collector) is = omega (arith, is)

-- the second byte is an `l`, as in the line of a client or of the closing script
abbrev pub HasLSecond : List ℕ → Type 0
HasLSecond bytes = get_or bytes 1 0 ≡ 108

-- the entries of a journal are read in one way before such bytes
pub entries_are_read : (types : TypeTable) → IsTypeTable types → AreRead (line_of (text_of_entry types)) (IsReadable types) (λ bytes. Unit {0}) HasLSecond
entries_are_read types table = record {
  end_behind = λ bytes ends. tt;
  item_behind = λ entry rest. tt;
  no_end = λ entry rest good ends. no_l entry (sym (second_is types entry rest) ∙ ends);
  once = λ a b rest more good good_too behind behind_too same. entry_once types a b rest more table good good_too same;
}
