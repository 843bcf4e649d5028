-- A document that isn't refused is one target.
use Rattle.std.proofs.Common.{◌≡◌, ◌<◌, ◌≤◌, ℕ, zero, suc, cond, true, false, List, [], ◌∷◌, ◌++◌, map, length, get_or, Option, None, Some, refl, sym, ap, subst, ◌∙◌, arith}
use Rattle.std.specs.Prelude.{slice_get, codes, option_and_then}
use Rattle.std.specs.Option.{option_map, option_map_or}
use Rattle.std.specs.Str.{bytes_eq}
use Rattle.std.proofs.lemmas.List.{same_lists}
use Rattle.std.proofs.lemmas.Option.{slice_get-get_or, slice_get_past}
use Rattle.causal_base.specs.declared.kind.Kind.{Kind}
use Rattle.causal_base.specs.declared.kind.Kind.TheVariants.{Unary, Send, Receive, Sync, Watch}
use Rattle.causal_base.specs.declared.type_row.TypeRow.{TypeRow}
use Rattle.causal_base.specs.Refusals.{ArePassed, refuses}
use Rattle.causal_base.specs.Spelling.{IsName, name_of}
use Rattle.causal_base.specs.Types.{TypeTable, kind_of, mate_of}
use Rattle.target_desc.specs.declared.target_error.TargetError.TheVariants.{BadType, MateUnknown, StrayKey, TwiceType}
use Rattle.target_desc.specs.Document.{entries_of, mate_field, name_field, traces_of}
use Rattle.target_desc.specs.Entries.{HasUnknownMate, entry_refusals, kind_word, type_refusals}
use Rattle.target_desc.specs.Reading.{HasStray, IsReadAs, IsTargetOf, refusals_of}
use Rattle.target_desc.specs.Target.{TargetState}
use Rattle.target_desc.specs.Traces.{trace_refusals}
use Rattle.toml.specs.Data.{Data, Members, string}
use Rattle.file_laws.proofs.DocumentsOnce.{document_once}
use Rattle.file_laws.proofs.FirstOnce.{none_from_least, passed_from_none, passed_more, passed_some}

-- nothing is wrong with the entries of a document that isn't refused
types_passed : (document : Members) → ArePassed (refusals_of document) → ArePassed (type_refusals (entries_of document))
types_passed document good =
    passed_more (trace_refusals (traces_of document)) (type_refusals (entries_of document))
    (passed_some (trace_refusals (traces_of document) ++ type_refusals (entries_of document)) (refuses (HasStray document) StrayKey ∷ []) good)

module _ (entries : List Data) (good : ArePassed (type_refusals entries)) where
  -- nor with each of the first ones
  first_passed : (n i : ℕ) → i < n → i < length entries → ArePassed (entry_refusals entries i)
  first_passed zero i before below = absurd (omega (arith, before))
  first_passed (suc n) i before below = passed_from_none (entry_refusals entries i)
      (λ error first. good.1.1.0 error (i, record { below = below; first = first; good_before = λ j earlier. first_passed n j (omega (arith, before, earlier)) (omega (arith, below, earlier)) }))

  entry_passed : (i : ℕ) → i < length entries → ArePassed (entry_refusals entries i)
  entry_passed i below = first_passed (length entries) i below below

  -- no two entries have one name
  pub entry_once : (i j : ℕ) → i < length entries → j < length entries → name_field entries i ≡ name_field entries j → i ≡ j
  entry_once i j i_below j_below same =
      let not_before : i < j → ⊥ = λ before. (entry_passed j j_below).1.0 (TwiceType j) ((i, before, same), refl) in
      let not_after : j < i → ⊥ = λ before. (entry_passed i i_below).1.0 (TwiceType i) ((j, before, sym same), refl) in
      omega (arith, not_before, not_after)

  -- no entry's name is empty, nor its mate's
  name_some : (i : ℕ) → i < length entries → name_field entries i ≡ Some [] → ⊥
  name_some i below empty = (entry_passed i below).0 (BadType i) (
    (λ name named is_name. let both : Some name ≡ Some [] = sym named ∙ empty in let same : name ≡ [] = cc in let fails : false ≡ true = subst IsName same is_name in absurd cc),
    refl,
  )

  pub mate_some : (i : ℕ) → i < length entries → mate_field entries i ≡ Some [] → ⊥
  mate_some i below empty =
      none_from_least (length entries) (HasUnknownMate entries) (λ j least. good.1.1.1.0 (MateUnknown j) (j, least, refl)) i below ([], empty, name_some)

-- the word for a kind tells the kind
abbrev kind_from : List ℕ → Kind
kind_from word = cond (bytes_eq word (codes "unary")) Unary (cond (bytes_eq word (codes "send")) Send (cond (bytes_eq word (codes "receive")) Receive (cond (bytes_eq word (codes "sync")) Sync Watch)))

is_kind_from : (kind : Kind) → kind_from (kind_word kind) ≡ kind
is_kind_from Unary = refl
is_kind_from Send = refl
is_kind_from Receive = refl
is_kind_from Sync = refl
is_kind_from Watch = refl

kind_once : (kind other : Kind) → kind_word kind ≡ kind_word other → kind ≡ other
kind_once kind other same = sym (is_kind_from kind) ∙ (ap kind_from same ∙ is_kind_from other)

-- where there is a row, it tells what the type is
name_of_row : (types : TypeTable) (i : ℕ) (row : TypeRow) → slice_get types.rows i ≡ Some row → name_of types i ≡ row.name
name_of_row types i row is = ap (λ found. option_map_or (λ (r : TypeRow). r.name) found []) is

kind_of_row : (types : TypeTable) (i : ℕ) (row : TypeRow) → slice_get types.rows i ≡ Some row → kind_of types i ≡ Some row.kind
kind_of_row types i row is = ap (λ found. option_map (λ (r : TypeRow). r.kind) found) is

mate_of_row : (types : TypeTable) (i : ℕ) (row : TypeRow) → slice_get types.rows i ≡ Some row → mate_of types i ≡ row.mate
mate_of_row types i row is = ap (λ found. option_and_then (λ (r : TypeRow). r.mate) found) is

-- there is no name past the rows
name_past : (types : TypeTable) (i : ℕ) → length types.rows ≤ i → name_of types i ≡ []
name_past types i past = ap (λ found. option_map_or (λ (r : TypeRow). r.name) found []) (slice_get_past types.rows i past)

-- rows with the same name, kind and mate are one
row_once : (row other : TypeRow) → row.name ≡ other.name → row.kind ≡ other.kind → row.mate ≡ other.mate → row ≡ other
row_once row other names kinds mates =
    ap (λ n. record { name = n; kind = row.kind; mate = row.mate }) names
    ∙ (ap (λ k. record { name = other.name; kind = k; mate = row.mate }) kinds
    ∙ ap (λ m. record { name = other.name; kind = other.kind; mate = m }) mates)

module _ (document : Members) (good : ArePassed (type_refusals (entries_of document))) where
  -- a mate is the number of an entry
  mate_below : (target : TargetState) (i mate : ℕ) → IsTargetOf document target → i < length (entries_of document) → mate_of target.types i ≡ Some mate → mate < length (entries_of document)
  mate_below target i mate says below has =
      let rows = says.rows in
      let past = λ (beyond : length (entries_of document) ≤ mate).
      let empty : name_of target.types mate ≡ [] = name_past target.types mate (omega (arith, rows, beyond)) in
      mate_some (entries_of document) good i below ((says.types i below).mate ∙ (ap (option_map (name_of target.types)) has ∙ ap Some empty)) in
      omega (arith, past)

  -- mates of one name have one number
  mates_once : (target other : TargetState) (i : ℕ) (mate its : Option ℕ) → IsTargetOf document target → IsTargetOf document other → i < length (entries_of document)
      → mate_of target.types i ≡ mate → mate_of other.types i ≡ its → option_map (name_of target.types) mate ≡ option_map (name_of other.types) its → mate ≡ its
  mates_once target other i None None says also below is its_is same = refl
  mates_once target other i None (Some n) says also below is its_is same = absurd cc
  mates_once target other i (Some m) None says also below is its_is same = absurd cc
  mates_once target other i (Some m) (Some n) says also below is its_is same =
      let m_below = mate_below target i m says below is in
      let n_below = mate_below other i n also below its_is in
      ap Some (entry_once (entries_of document) good m n m_below n_below ((says.types m m_below).named ∙ (same ∙ sym (also.types n n_below).named)))

  -- a document has one row for each entry
  row_is_one : (target other : TargetState) (i : ℕ) (row its : TypeRow) → IsTargetOf document target → IsTargetOf document other → i < length (entries_of document)
      → slice_get target.types.rows i ≡ Some row → slice_get other.types.rows i ≡ Some its → row ≡ its
  row_is_one target other i row its says also below is its_is =
      let one = says.types i below in
      let two = also.types i below in
      let both_names : Some (name_of target.types i) ≡ Some (name_of other.types i) = sym one.named ∙ two.named in
      let names : name_of target.types i ≡ name_of other.types i = cc in
      let kind_is : Some row.kind ≡ Some one.kind = sym (kind_of_row target.types i row is) ∙ one.is_kind in
      let its_kind_is : Some its.kind ≡ Some two.kind = sym (kind_of_row other.types i its its_is) ∙ two.is_kind in
      let both_words : Some (kind_word one.kind) ≡ Some (kind_word two.kind) = sym one.has_kind ∙ two.has_kind in
      let words : kind_word one.kind ≡ kind_word two.kind = cc in
      let kinds : one.kind ≡ two.kind = kind_once one.kind two.kind words in
      let row_kinds : row.kind ≡ its.kind = cc in
      let mates : mate_of target.types i ≡ mate_of other.types i = mates_once target other i (mate_of target.types i) (mate_of other.types i) says also below refl refl (sym one.mate ∙ two.mate) in
      row_once row its (sym (name_of_row target.types i row is) ∙ (names ∙ name_of_row other.types i its its_is)) row_kinds
      (sym (mate_of_row target.types i row is) ∙ (mates ∙ mate_of_row other.types i its its_is))

  rows_once : (target other : TargetState) → IsTargetOf document target → IsTargetOf document other → target.types.rows ≡ other.types.rows
  rows_once target other says also =
      let rows = says.rows in
      let its_rows = also.rows in
      same_lists target.types.rows other.types.rows (rows ∙ sym its_rows)
      (λ i d within. row_is_one target other i (get_or target.types.rows i d) (get_or other.types.rows i d) says also (omega (arith, rows, within))
      (slice_get-get_or target.types.rows i d within) (slice_get-get_or other.types.rows i d (omega (arith, rows, its_rows, within))))

-- strings of the same text are one
strings_once : (names others : List (List ℕ)) → map string names ≡ map string others → names ≡ others
strings_once [] [] same = refl
strings_once [] (b ∷ others) same = absurd cc
strings_once (a ∷ names) [] same = absurd cc
strings_once (a ∷ names) (b ∷ others) same =
    let heads : string a ≡ string b = cc in
    let first : a ≡ b = cc in
    let tails : map string names ≡ map string others = cc in
    let later : names ≡ others = strings_once names others tails in
    cc

-- targets of the same traces and rows are one
same_target : (target other : TargetState) → target.traces ≡ other.traces → target.types.traces ≡ other.types.traces → target.types.rows ≡ other.types.rows → target ≡ other
same_target target other traces counts rows =
    ap (λ names. record { traces = names; types = target.types }) traces
    ∙ (ap (λ n. record { traces = other.traces; types = record { traces = n; rows = target.types.rows } }) counts
    ∙ ap (λ rs. record { traces = other.traces; types = record { traces = other.types.traces; rows = rs } }) rows)

target_of_document : (document : Members) (target other : TargetState) → ArePassed (refusals_of document) → IsTargetOf document target → IsTargetOf document other → target ≡ other
target_of_document document target other good says also =
    let names = strings_once target.traces other.traces (sym says.traces ∙ also.traces) in
    same_target target other names (says.count_is ∙ (ap length names ∙ sym also.count_is)) (rows_once document (types_passed document good) target other says also)

-- bytes are read as one target
pub target_once : (bytes : List ℕ) (target other : TargetState) → IsReadAs bytes target → IsReadAs bytes other → target ≡ other
target_once bytes target other one two =
    let same = document_once bytes two.document one.document two.is_document one.is_document in
    target_of_document one.document target other one.good one.says (subst (λ document. IsTargetOf document other) same two.says)
