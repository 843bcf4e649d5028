-- The first fault of a text is one.
use Rattle.std.proofs.Common.{◌≡◌, ◌≤◌, ◌+◌, ℕ, inl, inr, List, [], ◌∷◌, ◌++◌, length, Some, sym, ◌∙◌, ap, subst, arith}
use Rattle.std.specs.Prelude.{Contains}
use Rattle.std.specs.List.{AllByRecursion}
use Rattle.std.proofs.lemmas.List.{take_all}
use Rattle.std.proofs.lemmas.List.Elements.{Contains-append_right}
use Rattle.causal_base.specs.declared.kind.Kind.{Kind}
use Rattle.causal_base.specs.Fields.{SplitsOnce}
use Rattle.causal_base.specs.Types.{TypeTable, kind_of}
use Rattle.causal_base.specs.TypeTables.{IsTypeTable}
use Rattle.causal_base.proofs.CallerLemmas.{split_in_one_way, Contains-here, passed_first}
use Rattle.raw_reader.specs.declared.cause.LineCause.{LineCause}
use Rattle.raw_reader.specs.declared.cause.LineError.{LineError}
use Rattle.causal_base.specs.Refusals.{Refusals, IsFirst}
use Rattle.raw_reader.specs.Causes.{id_faults, mate_faults, end_faults, Fields, IsFieldsCause, IsCause}
use Rattle.raw_reader.specs.EventParts.{IsOneLine}
use Rattle.raw_reader.specs.declared.limits.TheConstants.{MOST_INPUT, MOST_LINE}
use Rattle.raw_reader.specs.Texts.{TextLine, IsFitLine, text_of_lines, IsEndedCause, IsTailCause, IsKnownAfter}
use Rattle.raw_reader.proofs.FirstFaults.{same_fields}
use Rattle.raw_reader.proofs.LinesOnce.{lines_once, cause_ends}
use Rattle.raw_reader.proofs.Spelled.{none_equal}

-- each of these faults has one cause
abbrev HaveOneCause : Refusals LineCause → Type 0
HaveOneCause [] = Unit {0}
HaveOneCause (fault ∷ faults) = ((cause other : LineCause) → fault cause → fault other → cause ≡ other) × HaveOneCause faults

-- then the first of them has
first_once : (faults : Refusals LineCause) (cause other : LineCause) → HaveOneCause faults → IsFirst faults cause → IsFirst faults other → cause ≡ other
first_once [] cause other one first second = absurd first
first_once (fault ∷ faults) cause other one first second = elim first [
  | inl holds ↦ elim second [ inl also ↦ one.0 cause other holds also | inr later ↦ absurd (later.0 cause holds) ]
  | inr later ↦ elim second [ inl holds ↦ absurd (later.0 other holds) | inr more ↦ first_once faults cause other one.1 later.1 more.1 ]
]

id_causes : (traces : ℕ) (id : List ℕ) → HaveOneCause (id_faults traces id)
id_causes traces id = ((λ cause other one two. one.1 ∙ sym two.1), ((λ cause other one two. one.1 ∙ sym two.1), ((λ cause other one two. one.1 ∙ sym two.1), tt)))

-- so have those of what stands behind the type
later_causes : (traces : ℕ) (kind : Kind) (mate time text : List ℕ) → HaveOneCause (mate_faults traces kind mate ++ end_faults time text)
later_causes traces kind mate time text = (
  (λ cause other one two. one.1 ∙ sym two.1),
  (
    (λ cause other one two. one.1 ∙ sym two.1),
    (
      (λ cause other one two. one.1 ∙ sym two.1),
      (
        (λ cause other one two. one.1 ∙ sym two.1),
        ((λ cause other one two. one.1 ∙ sym two.1), ((λ cause other one two. one.1 ∙ sym two.1), ((λ cause other one two. one.1 ∙ sym two.1), tt))),
      ),
    ),
  ),
)

fields_cause_once : (types : TypeTable) (fields : Fields) (cause other : LineCause) → IsTypeTable types → IsFieldsCause types fields cause → IsFieldsCause types fields other → cause ≡ other
fields_cause_once types fields cause other table first second = elim first [
  | inl id ↦ elim second [ inl also ↦ first_once (id_faults types.traces fields.id) cause other (id_causes types.traces fields.id) id also | inr later ↦ absurd (passed_first (id_faults types.traces fields.id) cause later.0 id) ]
  | inr rest ↦ elim second [
    | inl id ↦ absurd (passed_first (id_faults types.traces fields.id) other rest.0 id)
    | inr more ↦ elim rest.1 [
      | inl none ↦ elim more.1 [ inl also ↦ none.1 ∙ sym also.1 | inr typed ↦ absurd (none.0 typed.1.type_no typed.1.in_table typed.1.named) ]
      | inr typed ↦ elim more.1 [
        | inl none ↦ absurd (none.0 typed.1.type_no typed.1.in_table typed.1.named)
        | inr also ↦
            let same = table.distinct typed.1.type_no also.1.type_no typed.1.in_table also.1.in_table (typed.1.named ∙ sym also.1.named) in
            let kinds : Some typed.0 ≡ Some also.0 = sym typed.1.is_of_kind ∙ (ap (kind_of types) same ∙ also.1.is_of_kind) in
            let kind : typed.0 ≡ also.0 = cc in
            first_once (mate_faults types.traces typed.0 fields.mate ++ end_faults fields.time fields.text) cause other (later_causes types.traces typed.0 fields.mate fields.time fields.text) typed.2
            (subst (λ k. IsFirst (mate_faults types.traces k fields.mate ++ end_faults fields.time fields.text) other) (sym kind) also.2)
      ]
    ]
  ]
]

cause_once : (types : TypeTable) (line : List ℕ) (cause other : LineCause) → IsTypeTable types → IsCause types line cause → IsCause types line other → cause ≡ other
cause_once types line cause other table first second = elim first [
  | inl shape ↦ elim second [ inl also ↦ shape.1 ∙ sym also.1 | inr fields ↦ absurd (shape.0 fields.0 fields.1) ]
  | inr fields ↦ elim second [
    | inl shape ↦ absurd (shape.0 fields.0 fields.1)
    | inr also ↦ fields_cause_once types fields.0 cause other table fields.2 (subst (λ f. IsFieldsCause types f other) (sym (same_fields line fields.0 also.0 fields.1 also.1)) also.2)
  ]
]

ended_once : (types : TypeTable) (line : List ℕ) (cause other : LineCause) → IsTypeTable types → IsEndedCause types line cause → IsEndedCause types line other → cause ≡ other
ended_once types line cause other table first second = elim first [
  | inl long ↦ elim second [ inl also ↦ long.1 ∙ sym also.1 | inr short ↦ (let over = long.0 in let under = short.0 in absurd (omega (arith, over, under))) ]
  | inr short ↦ elim second [ inl long ↦ (let over = long.0 in let under = short.0 in absurd (omega (arith, over, under))) | inr also ↦ cause_once types line cause other table short.2 also.2 ]
]

-- an ended line has a line feed behind it
has_feed : (tail bad others : List ℕ) → tail ≡ bad ++ 10 ∷ others → IsOneLine tail → ⊥
has_feed tail bad others is one_line = one_line (subst (λ bytes. Contains bytes 10) (sym is) (Contains-append_right bad (10 ∷ others) 10 (Contains-here 10 others)))

tail_cause_once : (types : TypeTable) (size : ℕ) (tail : List ℕ) (cause other : LineCause) → IsTypeTable types → IsTailCause types size tail cause → IsTailCause types size tail other → cause ≡ other
tail_cause_once types size tail cause other table first second = elim first [
  | inl ended ↦ elim second [
    | inr still ↦ absurd (has_feed tail ended.0 ended.1 ended.2 still.0)
    | inl also ↦
        let one : SplitsOnce 10 tail ended.0 ended.1 = record { whole = ended.2; first = none_equal 10 ended.0 ended.3 } in
        let two : SplitsOnce 10 tail also.0 also.1 = record { whole = also.2; first = none_equal 10 also.0 also.3 } in
        ended_once types ended.0 cause other table ended.4 (subst (λ bytes. IsEndedCause types bytes other) (sym (split_in_one_way 10 tail ended.0 ended.1 also.0 also.1 one two).0) also.4)
  ]
  | inr still ↦ elim second [
    | inl ended ↦ absurd (has_feed tail ended.0 ended.1 ended.2 still.0)
    | inr also ↦ elim still.1 [
      | inl long ↦ elim also.1 [ inl longer ↦ long.1 ∙ sym longer.1 | inr large ↦ (let over = long.0 in let under = large.0 in absurd (omega (arith, over, under))) ]
      | inr large ↦ elim also.1 [ inl long ↦ (let over = long.0 in let under = large.0 in absurd (omega (arith, over, under))) | inr larger ↦ large.2 ∙ sym larger.2 ]
    ]
  ]
]

module _ (types : TypeTable) (table : IsTypeTable types) where
  pub fault_once : (bytes : List ℕ) (lines others : List TextLine) (error other : LineError) → IsKnownAfter types bytes lines error → IsKnownAfter types bytes others other → (lines ≡ others) × (error ≡ other)
  fault_once bytes lines others error other first second =
      let same = lines_once types table lines others first.tail second.tail first.fit second.fit (sym first.within ∙ second.within)
      (cause_ends types (length bytes) first.tail error.cause table first.cause) (cause_ends types (length bytes) second.tail other.cause table second.cause) in
      let causes = tail_cause_once types (length bytes) first.tail error.cause other.cause table first.cause (subst (λ tail. IsTailCause types (length bytes) tail other.cause) (sym same.1) second.cause) in
      let line_nos : error.line ≡ other.line = first.line_is ∙ (ap (λ ls. length ls + 1) same.0 ∙ sym second.line_is) in
      (same.0, ap (λ n. record { line = n; cause = error.cause }) line_nos ∙ ap (λ c. record { line = other.line; cause = c }) causes)

  pub no_fault_known : (lines : List TextLine) → AllByRecursion (IsFitLine types) lines → (tail : List ℕ) → IsOneLine tail → length tail ≤ MOST_LINE → length (text_of_lines types lines ++ tail) ≤ MOST_INPUT
      → (others : List TextLine) (error : LineError) → IsKnownAfter types (text_of_lines types lines ++ tail) others error → ⊥
  no_fault_known lines fit tail one_line short within others error known =
      let bytes = text_of_lines types lines ++ tail in
      let same = lines_once types table lines others tail known.tail fit known.fit (sym (take_all MOST_INPUT bytes within) ∙ known.within)
      (λ well. has_feed tail _ _ well.is one_line) (cause_ends types (length bytes) known.tail error.cause table known.cause) in
      elim (subst (λ t. IsTailCause types (length bytes) t error.cause) (sym same.1) known.cause) [
        | inl ended ↦ has_feed tail ended.0 ended.1 ended.2 one_line
        | inr still ↦ elim still.1 [ inl long ↦ (let over = long.0 in omega (arith, over, short)) | inr large ↦ (let over = large.1 in omega (arith, over, within)) ]
      ]
