-- What a buffer that gathers one text, or hands on what is gathered, makes of any text.
use Rattle.std.proofs.Common.{◌≡◌, ℕ, List, [], ◌++◌, Result, Ok, Err, sym, subst, append-nil}
use Rattle.std.specs.Prelude.{OnOk}
use Rattle.poet_io.specs.SinkState.{SinkState}
use Rattle.poet_io.specs.Writes.{IsWritten, IsCutShort, Writes}
use Rattle.poet_io.proofs.CallerLemmas.{cut_more}
use Rattle.text_buffer.specs.Gathering.{HasCome, Gathers}
use Rattle.text_buffer.proofs.Gatherers.{Comes, IsCutBehind, cut_on, gathered_more, gathers_after, has_come_as, written_on}

-- more text was gathered
pub comes_gathered : (state : SinkState) (gathered gathering more : List ℕ) → gathering ≡ gathered ++ more → Comes state gathered state gathering more
comes_gathered state gathered gathering more is = λ start text come.
    subst (λ left. HasCome start state left (text ++ more)) (sym is) (gathered_more more come)

-- what was gathered was written, and more text is gathered in its place
pub comes_in_place : {a b : SinkState} {gathered gathering more : List ℕ} → IsWritten a b gathered → gathering ≡ more → Comes a gathered b gathering more
comes_in_place {a} {b} {gathered} {gathering} {more} all is = λ start text come.
    subst (λ left. HasCome start b left (text ++ more)) (sym is) (gathered_more more (written_on come all))

-- what was gathered was cut short, and with it more text
pub cut_behind_gathered : {a b : SinkState} {gathered : List ℕ} (more : List ℕ) → IsCutShort a b gathered → IsCutBehind a gathered b more
cut_behind_gathered more cut = λ start text come. cut_more more (cut_on come cut)

-- what was gathered was written, and more text is written directly behind it
pub gathers_directly : {T E : Type 0} {a b : SinkState} {gathered : List ℕ} (c : SinkState) (gathering more : List ℕ) (result : Result T E) → gathering ≡ [] → IsWritten a b gathered → Writes b c more result → Gathers a gathered c gathering more result
gathers_directly {T} {E} {a} {b} {gathered} c gathering more (Ok value) is first second = λ start text come.
    subst (λ left. HasCome start c left (text ++ more)) (sym is) (written_on (gathered_more more (written_on come first)) second)
gathers_directly c gathering more (Err error) is first cut = λ start text come. cut_on (gathered_more more (written_on come first)) cut

-- what was gathered is handed on
pub gathers_handed : {T E : Type 0} (a b : SinkState) (gathered gathering : List ℕ) (result : Result T E) → OnOk result (gathering ≡ []) → Writes a b gathered result → Gathers a gathered b gathering [] result
gathers_handed a b gathered gathering (Ok value) is all = λ start text come.
    subst (λ left. HasCome start b left (text ++ [])) (sym is) (has_come_as (sym (append-nil text)) (written_on come all))
gathers_handed a b gathered gathering (Err error) is cut = cut_behind_gathered [] cut

-- one text came, and what was gathered by then goes on its way
pub gathers_on : {T E : Type 0} {a b : SinkState} {first second more : List ℕ} (c : SinkState) (third : List ℕ) (result : Result T E) → Comes a first b second more → Gathers b second c third [] result → Gathers a first c third more result
gathers_on {T} {E} {a} {b} {first} {second} {more} c third result one two =
    subst (λ text. Gathers a first c third text result) (append-nil more) (gathers_after c third [] result one two)
