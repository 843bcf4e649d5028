-- Why a collector brought no more is read in one way, at the end of its line.
use Rattle.std.proofs.Common.{◌≡◌, ℕ, ◌+◌, ◌*◌, ◌^◌, ◌<◌, true, if◌then◌else◌, ◌==◌, List, [], ◌∷◌, ◌++◌, get_or, refl, sym, ◌∙◌, ap, arith, append_assoc}
use Rattle.std.specs.Prelude.{codes, decimal, nat_le}
use Rattle.std.specs.List.{list_all}
use Rattle.std.proofs.lemmas.Bool.{and_parts, leb-true}
use Rattle.std.proofs.lemmas.List.{append_cancel_left}
use Rattle.causal_base.specs.Spelling.{id_text}
use Rattle.raw_reader.specs.declared.cause.LineCause.{LineCause}
use Rattle.raw_reader.specs.declared.cause.LineCause.TheVariants.{TooLarge, LongLine, Unended, Shape, BadId, NoTrace, BadNumber, NoType, MateGiven, MateMissing, BadTime, LongText, Oom}
use Rattle.raw_reader.specs.declared.cause.LineError.{LineError}
use Rattle.raw_reader.specs.CauseNames.{cause_name}
use Rattle.poet_serve.specs.declared.report.Stop.{Stop}
use Rattle.poet_serve.specs.declared.report.Stop.TheVariants.{End, Read, Line, Full, Memory}
use Rattle.run_text.specs.Lines.{text_of_stop}
use Rattle.text_laws.specs.OneReading.{FitsStop}
use Rattle.text_laws.proofs.Tokens.{IsHigh, high_once, id_once, number_once}

-- two bytes tell the name of a cause
abbrev key_of : List ℕ → ℕ
key_of name = get_or name 0 0 * 1000 + get_or name 4 0

-- the cause that a name tells
abbrev cause_of : ℕ → LineCause
cause_of key = if key == 84097 then TooLarge
    else (if key == 76076 then LongLine
    else (if key == 85100 then Unended
    else (if key == 83101 then Shape
    else (if key == 66100 then BadId
    else (if key == 78097 then NoTrace
    else (if key == 66117 then BadNumber
    else (if key == 78112 then NoType
    else (if key == 77071 then MateGiven
    else (if key == 77077 then MateMissing
    else (if key == 66105 then BadTime
    else (if key == 76084 then LongText
    else Oom)))))))))))

cause_is_told : (cause : LineCause) → cause_of (key_of (cause_name cause)) ≡ cause
cause_is_told TooLarge = refl
cause_is_told LongLine = refl
cause_is_told Unended = refl
cause_is_told Shape = refl
cause_is_told BadId = refl
cause_is_told NoTrace = refl
cause_is_told BadNumber = refl
cause_is_told NoType = refl
cause_is_told MateGiven = refl
cause_is_told MateMissing = refl
cause_is_told BadTime = refl
cause_is_told LongText = refl
cause_is_told Oom = refl

-- the bytes pass the test
high_by_test : (bytes : List ℕ) → list_all (nat_le 48) bytes ≡ true → IsHigh bytes
high_by_test [] passes = tt
high_by_test (b ∷ bytes) passes =
    let parts = and_parts (nat_le 48 b) (list_all (nat_le 48) bytes) passes in
    (leb-true 48 b parts.0, high_by_test bytes parts.1)

name_passes : (cause : LineCause) → list_all (nat_le 48) (cause_name cause) ≡ true
name_passes TooLarge = refl
name_passes LongLine = refl
name_passes Unended = refl
name_passes Shape = refl
name_passes BadId = refl
name_passes NoTrace = refl
name_passes BadNumber = refl
name_passes NoType = refl
name_passes MateGiven = refl
name_passes MateMissing = refl
name_passes BadTime = refl
name_passes LongText = refl
name_passes Oom = refl

-- the name of a cause, with a line feed behind it
cause_once : (cause other : LineCause) (rest more : List ℕ) → cause_name cause ++ 10 ∷ rest ≡ cause_name other ++ 10 ∷ more → (cause ≡ other) × (rest ≡ more)
cause_once cause other rest more same =
    let once = high_once (cause_name cause) (cause_name other) 10 10 rest more (high_by_test _ (name_passes cause)) (high_by_test _ (name_passes other)) (omega arith) (omega arith) same in
    (sym (cause_is_told cause) ∙ (ap (λ (name : List ℕ). cause_of (key_of name)) once.0 ∙ cause_is_told other), once.2)

-- the line of a fault, parted
line_parted : (a b c d rest : List ℕ) → ((a ++ b) ++ (c ++ d)) ++ rest ≡ a ++ (b ++ (c ++ (d ++ rest)))
line_parted a b c d rest = simp append_assoc

error_once : (error other : LineError) (rest more : List ℕ) → error.line < 2 ^ 64 → other.line < 2 ^ 64 → text_of_stop (Line error) ++ 10 ∷ rest ≡ text_of_stop (Line other) ++ 10 ∷ more → (error ≡ other) × (rest ≡ more)
error_once error other rest more fits fits_too same =
    let parted : decimal error.line ++ 32 ∷ (cause_name error.cause ++ 10 ∷ rest) ≡ decimal other.line ++ 32 ∷ (cause_name other.cause ++ 10 ∷ more) =
    append_cancel_left (codes "line ") _ _
    (sym (line_parted (codes "line ") (decimal error.line) (codes " ") (cause_name error.cause) (10 ∷ rest)) ∙ (same ∙ line_parted (codes "line ") (decimal other.line) (codes " ") (cause_name other.cause) (10 ∷ more))) in
    let lines = number_once error.line other.line 32 32 _ _ fits fits_too (omega arith) (omega arith) parted in
    let causes = cause_once error.cause other.cause rest more lines.2 in
    let by_line : ℕ → LineError = λ n. record { line = n; cause = error.cause } in
    let by_cause : LineCause → LineError = λ c. record { line = other.line; cause = c } in
    (ap by_line lines.0 ∙ ap by_cause causes.0, causes.1)

-- the first byte
abbrev first_byte : Stop → ℕ
first_byte End = 101
first_byte Read = 114
first_byte (Line error) = 108
first_byte (Full id) = 102
first_byte Memory = 109

first_is : (stop : Stop) (rest : List ℕ) → get_or (text_of_stop stop ++ rest) 0 0 ≡ first_byte stop
first_is End rest = refl
first_is Read rest = refl
first_is (Line error) rest = refl
first_is (Full id) rest = refl
first_is Memory rest = refl

-- why it stopped, with a line feed behind it
pub stop_once : (stop other : Stop) (rest more : List ℕ) → FitsStop stop → FitsStop other → text_of_stop stop ++ 10 ∷ rest ≡ text_of_stop other ++ 10 ∷ more → (stop ≡ other) × (rest ≡ more)
stop_once End End rest more fits fits_too same = (refl, append_cancel_left (codes "end\n") rest more same)
stop_once Read Read rest more fits fits_too same = (refl, append_cancel_left (codes "read\n") rest more same)
stop_once (Line error) (Line other) rest more fits fits_too same =
    let once = error_once error other rest more fits fits_too same in (ap Line once.0, once.1)
stop_once (Full a) (Full b) rest more fits fits_too same =
    let parted : id_text a ++ 10 ∷ rest ≡ id_text b ++ 10 ∷ more =
    append_cancel_left (codes "full ") _ _ (sym (append_assoc (codes "full ") (id_text a) (10 ∷ rest)) ∙ (same ∙ append_assoc (codes "full ") (id_text b) (10 ∷ more))) in
    let once = id_once a b 10 10 rest more (omega (arith, fits.0)) (omega (arith, fits_too.0)) (omega (arith, fits.1)) (omega (arith, fits_too.1)) (omega arith) (omega arith) parted in
    (ap Full once.0, once.2)
stop_once Memory Memory rest more fits fits_too same = (refl, append_cancel_left (codes "memory\n") rest more same)
stop_once stop other rest more fits fits_too same =
    let wrong : first_byte stop ≡ first_byte other = sym (first_is stop (10 ∷ rest)) ∙ (ap (λ (bytes : List ℕ). get_or bytes 0 0) same ∙ first_is other (10 ∷ more)) in
    absurd (omega (arith, wrong))
