-- Bytes are one document or none, and what is wrong with a document is one error.
use Rattle.std.proofs.Common.{◌≡◌, ◌<◌, ℕ, inl, inr, List, [], ◌∷◌, ◌++◌, length, Some, sym, ap, subst, ◌∙◌, arith}
use Rattle.causal_base.specs.Refusals.{IsFirst, refuses}
use Rattle.causal_base.proofs.CallerLemmas.{passed_first}
use Rattle.target_desc.specs.declared.target_error.TargetError.{TargetError}
use Rattle.target_desc.specs.declared.target_error.TargetError.TheVariants.{BadTrace, TwiceTrace, MateUnknown, MateNotMutual, StrayKey}
use Rattle.target_desc.specs.Document.{entries_of, traces_of}
use Rattle.target_desc.specs.Entries.{HasNoMutualMate, HasUnknownMate, IsRefusedEntry, entry_refusals, type_refusals}
use Rattle.target_desc.specs.Reading.{HasStray, IsDocument, IsReadAs, IsRefusedWith, refusals_of}
use Rattle.target_desc.specs.Target.{TargetState}
use Rattle.target_desc.specs.Traces.{IsBadTrace, IsTwiceTrace, trace_refusals}
use Rattle.toml.specs.Data.{Data, Members}
use Rattle.file_laws.proofs.FirstOnce.{HaveOneError, first_once, least_once, one_of_both}

pub document_once : (bytes : List ℕ) (document other : Members) → IsDocument bytes document → IsDocument bytes other → document ≡ other
document_once bytes document other one two =
    let both : Some document ≡ Some other = sym one.parsed ∙ two.parsed in
    cc

-- what is wrong with traces, with an entry, and with entries, is one error
trace_errors : (traces : List Data) → HaveOneError (trace_refusals traces)
trace_errors traces = (
  (λ error other one two. one.1 ∙ sym two.1),
  (
    (λ error other one two. one.1 ∙ sym two.1),
    (
      (λ error other one two. one.2 ∙ (ap BadTrace (least_once (length traces) (IsBadTrace traces) one.0 two.0 one.1 two.1) ∙ sym two.2)),
      ((λ error other one two. one.2 ∙ (ap TwiceTrace (least_once (length traces) (IsTwiceTrace traces) one.0 two.0 one.1 two.1) ∙ sym two.2)), tt),
    ),
  ),
)

entry_errors : (entries : List Data) (i : ℕ) → HaveOneError (entry_refusals entries i)
entry_errors entries i = (
  (λ error other one two. one.1 ∙ sym two.1),
  (
    (λ error other one two. one.1 ∙ sym two.1),
    ((λ error other one two. one.1 ∙ sym two.1), ((λ error other one two. one.1 ∙ sym two.1), ((λ error other one two. one.1 ∙ sym two.1), tt))),
  ),
)

refused_entry_once : (entries : List Data) (i j : ℕ) (error other : TargetError) → IsRefusedEntry entries i error → IsRefusedEntry entries j other → error ≡ other
refused_entry_once entries i j error other one two =
    let not_below : i < j → ⊥ = λ below. passed_first (entry_refusals entries i) error (two.good_before i below) one.first in
    let not_above : j < i → ⊥ = λ above. passed_first (entry_refusals entries j) other (one.good_before j above) two.first in
    let same : j ≡ i = omega (arith, not_below, not_above) in
    first_once (entry_refusals entries i) error other (entry_errors entries i) one.first (subst (λ k. IsFirst (entry_refusals entries k) other) same two.first)

type_errors : (entries : List Data) → HaveOneError (type_refusals entries)
type_errors entries = (
  (λ error other one two. one.1 ∙ sym two.1),
  (
    (λ error other one two. one.1 ∙ sym two.1),
    (
      (λ error other one two. refused_entry_once entries one.0 two.0 error other one.1 two.1),
      (
        (λ error other one two. one.2 ∙ (ap MateUnknown (least_once (length entries) (HasUnknownMate entries) one.0 two.0 one.1 two.1) ∙ sym two.2)),
        ((λ error other one two. one.2 ∙ (ap MateNotMutual (least_once (length entries) (HasNoMutualMate entries) one.0 two.0 one.1 two.1) ∙ sym two.2)), tt),
      ),
    ),
  ),
)

document_errors : (document : Members) → HaveOneError (refusals_of document)
document_errors document =
    one_of_both (trace_refusals (traces_of document) ++ type_refusals (entries_of document)) (refuses (HasStray document) StrayKey ∷ [])
    (one_of_both (trace_refusals (traces_of document)) (type_refusals (entries_of document)) (trace_errors (traces_of document)) (type_errors (entries_of document)))
    ((λ error other one two. one.1 ∙ sym two.1), tt)

-- what is read as a target isn't refused
pub not_refused : (bytes : List ℕ) (target : TargetState) (error : TargetError) → IsReadAs bytes target → IsRefusedWith bytes error → ⊥
not_refused bytes target error read refused = elim refused [
  | inl long ↦ let over = long.0 in let within = read.within in omega (arith, over, within)
  | inr short ↦ elim short.1 [
    | inl none ↦ none.0 read.document read.is_document
    | inr wrong ↦
        let same = document_once bytes wrong.0 read.document wrong.1 read.is_document in
        passed_first (refusals_of read.document) error read.good (subst (λ document. IsFirst (refusals_of document) error) same wrong.2)
  ]
]

-- what is refused is so with one error
pub refused_once : (bytes : List ℕ) (error other : TargetError) → IsRefusedWith bytes error → IsRefusedWith bytes other → error ≡ other
refused_once bytes error other one two = elim one [
  | inl long ↦ elim two [ inl also ↦ long.1 ∙ sym also.1 | inr short ↦ let over = long.0 in let within = short.0 in absurd (omega (arith, over, within)) ]
  | inr short ↦ elim two [
    | inl long ↦ let over = long.0 in let within = short.0 in absurd (omega (arith, over, within))
    | inr shorter ↦ elim short.1 [
      | inl none ↦ elim shorter.1 [ inl also ↦ none.1 ∙ sym also.1 | inr wrong ↦ absurd (none.0 wrong.0 wrong.1) ]
      | inr wrong ↦ elim shorter.1 [
        | inl none ↦ absurd (none.0 wrong.0 wrong.1)
        | inr also ↦
            let same = document_once bytes also.0 wrong.0 also.1 wrong.1 in
            first_once (refusals_of wrong.0) error other (document_errors wrong.0) wrong.2 (subst (λ document. IsFirst (refusals_of document) other) same also.2)
      ]
    ]
  ]
]
