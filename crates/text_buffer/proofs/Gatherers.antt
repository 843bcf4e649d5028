-- How texts that are gathered for a sink follow one another.
use Rattle.std.proofs.Common.{◌≡◌, ℕ, List, [], ◌++◌, Result, Ok, Err, refl, sym, ◌∙◌, ap, subst, append_assoc, append-nil}
use Rattle.std.specs.Prelude.{IsErrAnd}
use Rattle.poet_io.specs.SinkState.{SinkState}
use Rattle.poet_io.specs.Writes.{IsWritten, IsCutShort, Writes}
use Rattle.poet_io.proofs.CallerLemmas.{cut_after, cut_more, written_both}
use Rattle.text_buffer.specs.Gathering.{HasCome, Gathers}
use Rattle.text_buffer.proofs.Unwritten.{none_written}

-- More text comes behind any text: this is what `Gathers` says of an `Ok`.
abbrev pub Comes : (before : SinkState) (gathered : List ℕ) (after : SinkState) (gathering more : List ℕ) → Type 0
Comes before gathered after gathering more =
    (start : SinkState) (text : List ℕ) → HasCome start before gathered text → HasCome start after gathering (text ++ more)

-- Any text and more behind it are cut short: this is what `Gathers` says of an `Err`.
abbrev pub IsCutBehind : (before : SinkState) (gathered : List ℕ) (after : SinkState) (more : List ℕ) → Type 0
IsCutBehind before gathered after more =
    (start : SinkState) (text : List ℕ) → HasCome start before gathered text → IsCutShort start after (text ++ more)

-- no text has come
pub none_has_come : (state : SinkState) → HasCome state state [] []
none_has_come state = record { written = []; whole = refl; is_written = none_written state }

-- no text has come to a buffer in which nothing is gathered
pub none_has_come_to : (state : SinkState) (gathered : List ℕ) → gathered ≡ [] → HasCome state state gathered []
none_has_come_to state gathered is = subst (λ left. HasCome state state left []) (sym is) (none_has_come state)

-- a text that has come, parted in another way
pub has_come_as : {start now : SinkState} {gathered text same : List ℕ} → text ≡ same → HasCome start now gathered text → HasCome start now gathered same
has_come_as {start} {now} {gathered} is come = subst (HasCome start now gathered) is come

-- a text has come, and then one more came
pub has_come_after : {start a b : SinkState} {gathered gathering text more : List ℕ} → HasCome start a gathered text → Comes a gathered b gathering more → HasCome start b gathering (text ++ more)
has_come_after {start} {a} {b} {gathered} {gathering} {text} come one = one start text come

-- a text has come, and one more was cut short
pub cut_after_come : {start a b : SinkState} {gathered text more : List ℕ} → HasCome start a gathered text → IsCutBehind a gathered b more → IsCutShort start b (text ++ more)
cut_after_come {start} {a} {b} {gathered} {text} come cut = cut start text come

-- more text was gathered
pub gathered_more : {start now : SinkState} {gathered text : List ℕ} (more : List ℕ) → HasCome start now gathered text → HasCome start now (gathered ++ more) (text ++ more)
gathered_more {start} {now} {gathered} {text} more come = record {
  written = come.written;
  whole = ap (λ all. all ++ more) come.whole ∙ append_assoc come.written gathered more;
  is_written = come.is_written;
}

-- what was gathered was written
pub written_on : {start a b : SinkState} {gathered text : List ℕ} → HasCome start a gathered text → IsWritten a b gathered → HasCome start b [] text
written_on {start} {a} {b} {gathered} {text} come all = record {
  written = text;
  whole = sym (append-nil text);
  is_written = subst (IsWritten start b) (sym come.whole) (written_both come.is_written all);
}

-- what was gathered was cut short
pub cut_on : {start a b : SinkState} {gathered text : List ℕ} → HasCome start a gathered text → IsCutShort a b gathered → IsCutShort start b text
cut_on {start} {a} {b} come cut = subst (IsCutShort start b) (sym come.whole) (cut_after come.is_written cut)

-- what was gathered was handed on, and with it the text is out
pub handed_on : {T E : Type 0} {start a : SinkState} {gathered text : List ℕ} (b : SinkState) (result : Result T E) → HasCome start a gathered text → Writes a b gathered result → Writes start b text result
handed_on {T} {E} {start} {a} {gathered} {text} b (Ok value) come all =
    subst (IsWritten start b) (sym come.whole) (written_both come.is_written all)
handed_on b (Err error) come cut = cut_on come cut

-- no text came
pub none_comes : (state : SinkState) (gathered : List ℕ) → Comes state gathered state gathered []
none_comes state gathered = λ start text come. has_come_as (sym (append-nil text)) come

-- one text came, and then one more
pub comes_both : {a b c : SinkState} {first second third xs ys : List ℕ} → Comes a first b second xs → Comes b second c third ys → Comes a first c third (xs ++ ys)
comes_both {a} {b} {c} {first} {second} {third} {xs} {ys} one two = λ start text come.
    has_come_as (append_assoc text xs ys) (two start (text ++ xs) (one start text come))

-- one text came, and one more was cut short
pub cut_behind : {a b c : SinkState} {first second xs ys : List ℕ} → Comes a first b second xs → IsCutBehind b second c ys → IsCutBehind a first c (xs ++ ys)
cut_behind {a} {b} {c} {first} {second} {xs} {ys} one cut = λ start text come.
    subst (IsCutShort start c) (append_assoc text xs ys) (cut start (text ++ xs) (one start text come))

-- one text was cut short, and with it what should have followed
pub cut_behind_more : {a b : SinkState} {first xs : List ℕ} (ys : List ℕ) → IsCutBehind a first b xs → IsCutBehind a first b (xs ++ ys)
cut_behind_more {a} {b} {first} {xs} ys cut = λ start text come.
    subst (IsCutShort start b) (append_assoc text xs ys) (cut_more ys (cut start text come))

-- one text came, and then one more is gathered
pub gathers_after : {T E : Type 0} {a b : SinkState} {first second xs : List ℕ} (c : SinkState) (third ys : List ℕ) (result : Result T E) → Comes a first b second xs → Gathers b second c third ys result → Gathers a first c third (xs ++ ys) result
gathers_after {T} {E} {a} {b} {first} {second} {xs} c third ys (Ok value) one two = comes_both one two
gathers_after c third ys (Err error) one cut = cut_behind one cut

-- one that gathers answers an error once its text was cut short
pub ends_cut_behind : {T E : Type 0} {a b : SinkState} {first more : List ℕ} (gathering : List ℕ) (result : Result T E) (value : E) → IsErrAnd result (λ error. error ≡ value) → IsCutBehind a first b more → Gathers a first b gathering more result
ends_cut_behind gathering (Ok result) value is cut = absurd is
ends_cut_behind gathering (Err error) value is cut = cut
