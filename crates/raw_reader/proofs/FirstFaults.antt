-- What the first fault of fields says, and that a spelling has none.
use Rattle.std.proofs.Common.{◌≡◌, ◌≢◌, ℕ, ◌^◌, ◌<◌, ◌≤◌, inl, inr, List, [], ◌∷◌, ◌++◌, length, Some, None, Option, IsSome, ◌↔◌, refl, sym, ◌∙◌, ap, subst, arith}
use Rattle.std.specs.Prelude.{Contains, codes, decimal, IfSome, IfNone}
use Rattle.std.proofs.lemmas.Fmt.{decimal_nonempty}
use Rattle.std.proofs.lemmas.List.Elements.{All-cons, All-nil, Contains-append_right}
use Rattle.causal_base.specs.declared.event.Event.{Event}
use Rattle.causal_base.specs.declared.event_id.EventId.{EventId}
use Rattle.causal_base.specs.declared.fields.IdFault.{IdFault}
use Rattle.causal_base.specs.declared.fields.IdFault.TheVariants as id_fault
use Rattle.causal_base.specs.declared.kind.Kind.{Kind}
use Rattle.causal_base.specs.Event.{IsFit, IsInRange, NamesAnother}
use Rattle.causal_base.specs.Fields.{IsIdInRange, HasIdFault}
use Rattle.causal_base.specs.Spelling.{IsId, IsName, id_text, mate_text, name_of, spelling, text_part}
use Rattle.causal_base.specs.Types.{TypeTable, kind_of}
use Rattle.causal_base.specs.TypeTables.{IsTypeTable}
use Rattle.causal_base.proofs.CallerLemmas.{Contains-there, Contains-nil, below_two_to_64, fault_excludes, id_once, no_id_unsplit, passed_both, passed_first}
use Rattle.raw_reader.specs.declared.cause.LineCause.{LineCause}
use Rattle.raw_reader.specs.declared.cause.LineCause.TheVariants.{Shape}
use Rattle.raw_reader.specs.Splits.{IsSplit}
use Rattle.raw_reader.proofs.Splitting.{split_once}
use Rattle.raw_reader.proofs.Spelled.{has_type, spelling_is_split}
use Rattle.causal_base.specs.Refusals.{IsFirst, ArePassed}
use Rattle.raw_reader.specs.Causes.{id_faults, id_cause, mate_faults, end_faults, Fields, AreFields, HasType, IsFieldsCause, IsCause}

-- the fault that is found of an id is its first
pub id_first : (traces : ℕ) (bytes : List ℕ) (fault : IdFault) → HasIdFault bytes traces fault → IsFirst (id_faults traces bytes) (id_cause fault)
id_first traces bytes id_fault.BadId fault = inl (fault, refl)
id_first traces bytes id_fault.NoTrace fault = inr ((λ error no_id. no_id.0 fault.trace fault.number fault.is_id), inl (fault, refl))
id_first traces bytes id_fault.BadNumber fault = inr (
  (λ error no_id. no_id.0 fault.trace fault.number fault.is_id),
  inr (
    (λ error none. let other = none.0 in let same = id_once bytes fault.trace fault.number other.trace other.number fault.is_id other.is_id in let among = fault.among in let beyond = other.beyond in omega (arith, same.0, among, beyond)),
    inl (fault, refl),
  ),
)

-- an id in range has no fault
pub id_has_none : (traces : ℕ) (bytes : List ℕ) (id : EventId) → IsIdInRange bytes traces id → ArePassed (id_faults traces bytes)
id_has_none traces bytes id range = (
  (λ error bad. fault_excludes bytes traces id id_fault.BadId range bad.0),
  ((λ error bad. fault_excludes bytes traces id id_fault.NoTrace range bad.0), ((λ error bad. fault_excludes bytes traces id id_fault.BadNumber range bad.0), tt)),
)

-- a line whose fields aren't all there has no shape
pub shape_cause : (types : TypeTable) (line : List ℕ) (fields : Fields) → IsSplit line fields.id fields.name fields.mate fields.time fields.text
    → ((fields.id ≢ []) × (fields.name ≢ []) × (fields.mate ≢ []) × (fields.time ≢ []) → ⊥) → IsCause types line Shape
shape_cause types line fields split not_four = inl (none, refl)
  where
    none : (other : Fields) → AreFields line other → ⊥
    none other are =
        let same = split_once line other.id other.name other.mate other.time other.text fields.id fields.name fields.mate fields.time fields.text are.split split in
        not_four (
          subst (λ v. v ≢ []) same.id_same are.some_id,
          subst (λ v. v ≢ []) same.name_same are.some_name,
          subst (λ v. v ≢ []) same.mate_same are.some_mate,
          subst (λ v. v ≢ []) same.time_same are.some_time,
        )

-- the fields of a line that are there
pub are_fields : (line : List ℕ) (fields : Fields) → IsSplit line fields.id fields.name fields.mate fields.time fields.text
    → (fields.id ≢ []) × (fields.name ≢ []) × (fields.mate ≢ []) × (fields.time ≢ []) → AreFields line fields
are_fields line fields split four = record { split = split; some_id = four.0; some_name = four.1; some_mate = four.2; some_time = four.3 }

-- what is wrong with the mate, the time and the text
pub later_cause : (types : TypeTable) (line : List ℕ) (fields : Fields) (id : EventId) (kind : Kind) (cause : LineCause) → AreFields line fields → IsIdInRange fields.id types.traces id → HasType types fields.name kind
    → IsFirst (mate_faults types.traces kind fields.mate ++ end_faults fields.time fields.text) cause → IsCause types line cause
later_cause types line fields id kind cause are in_range has first =
    inr (fields, are, inr (id_has_none types.traces fields.id id in_range, inr (kind, has, first)))

-- a dash is no id
pub dash_is_no_id : (trace number : ℕ) → IsId (codes "-") trace number → ⊥
dash_is_no_id trace number is = no_id_unsplit (codes "-") (All-cons (λ b. b ≡ 46 → ⊥) 45 [] (λ same. cc) (All-nil (λ b. b ≡ 46 → ⊥))) trace number is

-- a mate that is read has no fault
pub mate_has_none : (traces : ℕ) (kind : Kind) (field : List ℕ) (mate : Option EventId) → IsSome mate ↔ NamesAnother kind → IfSome mate (IsIdInRange field traces) → IfNone mate (field ≡ codes "-") → ArePassed (mate_faults traces kind field)
mate_has_none traces kind field None named in_range dash = (
  (λ error given. given.0.1 dash),
  (
    (λ error missing. let some = named.1 missing.0.0 in cc),
    (
      (λ error bad. let some = named.1 bad.0.0 in cc),
      ((λ error bad. let some = named.1 bad.0.0 in cc), ((λ error bad. let some = named.1 bad.0.0 in cc), tt)),
    ),
  ),
)
mate_has_none traces kind field (Some id) named in_range dash =
    let none = id_has_none traces field id in_range in (
      (λ error given. given.0.0 (named.0 refl)),
      ((λ error missing. no_dash missing.0.1), ((λ error bad. none.0 error (bad.0.1, bad.1)), ((λ error bad. none.1.0 error (bad.0.1, bad.1)), ((λ error bad. none.1.1.0 error (bad.0.1, bad.1)), tt)))),
    )
  where
    no_dash : field ≡ codes "-" → ⊥
    no_dash is = dash_is_no_id id.trace id.number (subst (λ f. IsId f id.trace id.number) is in_range.is_id)

-- an id in range of a table
pub in_range_of : (types : TypeTable) (bytes : List ℕ) (id : EventId) → IsIdInRange bytes types.traces id → IsInRange types id
in_range_of types bytes id range = record { trace = range.trace; least = range.least; most = range.most }

pub mate_range : (types : TypeTable) (bytes : List ℕ) (mate : Option EventId) → IfSome mate (IsIdInRange bytes types.traces) → IfSome mate (IsInRange types)
mate_range types bytes None range = tt
mate_range types bytes (Some id) range = in_range_of types bytes id range

-- what a text has, its line has
pub text_in_line : (line id name mate time text : List ℕ) (byte : ℕ) → IsSplit line id name mate time text → Contains text byte → Contains line byte
text_in_line line id name mate time text byte split has =
    subst (λ bytes. Contains bytes byte) (sym split.whole)
    (Contains-append_right id (32 ∷ (name ++ 32 ∷ (mate ++ 32 ∷ (time ++ text_part text)))) byte
    (Contains-there 32 (name ++ 32 ∷ (mate ++ 32 ∷ (time ++ text_part text))) byte
    (Contains-append_right name (32 ∷ (mate ++ 32 ∷ (time ++ text_part text))) byte
    (Contains-there 32 (mate ++ 32 ∷ (time ++ text_part text)) byte
    (Contains-append_right mate (32 ∷ (time ++ text_part text)) byte
    (Contains-there 32 (time ++ text_part text) byte
    (Contains-append_right time (text_part text) byte (in_part text has))))))))
  where
    in_part : (bytes : List ℕ) → Contains bytes byte → Contains (text_part bytes) byte
    in_part [] has = absurd (Contains-nil byte has)
    in_part (c ∷ cs) has = Contains-there 32 (c ∷ cs) byte has

-- an id in range is so in its text
id_in_text : (types : TypeTable) (id : EventId) → types.traces ≤ 256 → IsInRange types id → IsIdInRange (id_text id) types.traces id
id_in_text types id few range = record {
  is_id = record { small_trace = omega (arith, few, range.trace); small_number = omega (arith, range.most); spelled = refl };
  trace = range.trace;
  least = range.least;
  most = range.most;
}

some_front : (front more : List ℕ) → front ≢ [] → front ++ more ≢ []
some_front [] more some none = some refl
some_front (x ∷ front) more some none = cc

some_decimal : (n : ℕ) → n < 10 ^ 18 → decimal n ≢ []
some_decimal n small none = let some = decimal_nonempty n (below_two_to_64 n small) in let size = ap length none in omega (arith, some, size)

some_mate_text : (types : TypeTable) (mate : Option EventId) → types.traces ≤ 256 → IfSome mate (IsInRange types) → mate_text mate ≢ []
some_mate_text types None few range none = cc
some_mate_text types (Some id) few range none = some_front (decimal id.trace) _ (some_decimal id.trace (omega (arith, few, range.trace))) none

some_name_text : (bytes : List ℕ) → IsName bytes → bytes ≢ []
some_name_text [] name none = cc
some_name_text (c ∷ cs) name none = cc

-- the fields of an event's spelling
abbrev fields_spelled : TypeTable → Event → Fields
fields_spelled types e = record { id = id_text e.id; name = name_of types e.type_no; mate = mate_text e.mate; time = decimal e.time; text = e.text }

spelled_fields : (types : TypeTable) (line : List ℕ) (e : Event) → IsTypeTable types → IsFit types e → line ≡ spelling types e → AreFields line (fields_spelled types e)
spelled_fields types line e table fit spelled = record {
  split = spelling_is_split types line e table fit spelled;
  some_id = some_front (decimal e.id.trace) _ (some_decimal e.id.trace (let few = table.most_traces in let range = fit.id.trace in omega (arith, few, range)));
  some_name = some_name_text (name_of types e.type_no) (table.names e.type_no (has_type types e.type_no fit.kind fit.is_of_kind));
  some_mate = some_mate_text types e.mate table.most_traces fit.mate_in_range;
  some_time = some_decimal e.time fit.time;
}

mate_in_text : (types : TypeTable) (mate : Option EventId) → types.traces ≤ 256 → IfSome mate (IsInRange types) → IfSome mate (IsIdInRange (mate_text mate) types.traces)
mate_in_text types None few range = tt
mate_in_text types (Some id) few range = id_in_text types id few range

dash_where_none : (mate : Option EventId) → IfNone mate (mate_text mate ≡ codes "-")
dash_where_none None = refl
dash_where_none (Some id) = tt

-- nothing is wrong with the fields of a spelling
no_fields_cause : (types : TypeTable) (e : Event) (cause : LineCause) → IsTypeTable types → IsFit types e → IsFieldsCause types (fields_spelled types e) cause → ⊥
no_fields_cause types e cause table fit wrong = elim wrong [
  | inl id ↦ passed_first (id_faults types.traces (id_text e.id)) cause (id_has_none types.traces (id_text e.id) e.id (id_in_text types e.id table.most_traces fit.id)) id
  | inr rest ↦ elim rest.1 [
    | inl no_type ↦ no_type.0 e.type_no within refl
    | inr typed ↦
        let same = table.distinct typed.1.type_no e.type_no typed.1.in_table within typed.1.named in
        let kinds : Some fit.kind ≡ Some typed.0 = sym fit.is_of_kind ∙ (ap (kind_of types) (sym same) ∙ typed.1.is_of_kind) in
        let kind : fit.kind ≡ typed.0 = cc in
        let mates = mate_has_none types.traces typed.0 (mate_text e.mate) e.mate (subst (λ k. IsSome e.mate ↔ NamesAnother k) kind fit.mate)
        (mate_in_text types e.mate table.most_traces fit.mate_in_range) (dash_where_none e.mate) in
        let ends : ArePassed (end_faults (decimal e.time) e.text) = ((λ error no_number. no_number.0 e.time (record { small = fit.time; spelled = refl })), ((λ error long. let most = fit.text_length in let over = long.0 in omega (arith, over, most)), tt)) in
        passed_first (mate_faults types.traces typed.0 (mate_text e.mate) ++ end_faults (decimal e.time) e.text) cause
        (passed_both (mate_faults types.traces typed.0 (mate_text e.mate)) (end_faults (decimal e.time) e.text) mates ends) typed.2
  ]
]
  where
    within : e.type_no < length types.rows
    within = has_type types e.type_no fit.kind fit.is_of_kind

pub same_fields : (line : List ℕ) (some other : Fields) → AreFields line some → AreFields line other → some ≡ other
same_fields line some other are also =
    let same = split_once line some.id some.name some.mate some.time some.text other.id other.name other.mate other.time other.text are.split also.split in
    ap (λ v. record { id = v; name = some.name; mate = some.mate; time = some.time; text = some.text }) same.id_same
    ∙ (ap (λ v. record { id = other.id; name = v; mate = some.mate; time = some.time; text = some.text }) same.name_same
    ∙ (ap (λ v. record { id = other.id; name = other.name; mate = v; time = some.time; text = some.text }) same.mate_same
    ∙ (ap (λ v. record { id = other.id; name = other.name; mate = other.mate; time = v; text = some.text }) same.time_same
    ∙ ap (λ v. record { id = other.id; name = other.name; mate = other.mate; time = other.time; text = v }) same.text_same)))

-- a line that spells a fit event has no cause
pub spelled_has_no_cause : (types : TypeTable) (line : List ℕ) (e : Event) (cause : LineCause) → IsTypeTable types → IsFit types e → line ≡ spelling types e → IsCause types line cause → ⊥
spelled_has_no_cause types line e cause table fit spelled wrong = elim wrong [
  | inl shape ↦ shape.0 (fields_spelled types e) (spelled_fields types line e table fit spelled)
  | inr other ↦ no_fields_cause types e cause table fit
      (subst (λ fields. IsFieldsCause types fields cause) (same_fields line other.0 (fields_spelled types e) other.1 (spelled_fields types line e table fit spelled)) other.2)
]
