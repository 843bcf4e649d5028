-- A text is a list of sizes in one way.
use Rattle.std.proofs.Common.{◌≡◌, ◌≢◌, ℕ, suc, ◌+◌, ◌<◌, ◌≤◌, List, [], ◌∷◌, ◌++◌, length, get_or, take, set, All, Option, None, Some, append-nil, append_assoc, length-append, refl, sym, ap, subst, ◌∙◌, arith}
use Rattle.std.specs.Prelude.{codes, decimal}
use Rattle.std.specs.List.{flat_map, join_by}
use Rattle.std.proofs.lemmas.Fmt.{digits_decimal}
use Rattle.std.proofs.lemmas.List.{get_or_at, take_more_set}
use Rattle.std.proofs.lemmas.List.Elements.{All-from_get_or}
use Rattle.std.proofs.lemmas.Str.Parse.{not_in_digits}
use Rattle.causal_base.specs.Spelling.{IsNumber}
use Rattle.causal_base.proofs.CallerLemmas.{has_none, number_once, own_digits, split_in_one_way}
use Rattle.cluster_levels.specs.Sizes.{AreSizes}
use Rattle.cluster_levels.specs.declared.limits.TheConstants.{MOST_SIZE}
use Rattle.command_line.specs.ListParts.{IsListPart, IsNextSize, comma_before}
use Rattle.command_line.specs.SizeLists.{IsSizeList}

-- sizes with commas between them
abbrev pub listed : List ℕ → List ℕ
listed sizes = join_by decimal (codes ",") sizes

-- sizes, each behind a comma
abbrev pub each_behind : List ℕ → List ℕ
each_behind sizes = flat_map (λ size. codes "," ++ decimal size) sizes

-- a small number in decimal
pub small_number : (n : ℕ) → n ≤ MOST_SIZE → IsNumber (decimal n) n
small_number n small = record { small = omega (arith, small); spelled = refl }

lacks_comma : (n : ℕ) → n ≤ MOST_SIZE → All (λ byte. byte ≢ 44) (decimal n)
lacks_comma n small = All-from_get_or (λ byte. byte ≢ 44) (decimal n) 0 (λ i within. not_in_digits own_digits (decimal n) 44 (digits_decimal own_digits n (omega (arith, small))) (λ h. omega (arith, h)) i within)

-- a part, and what stands behind it, are parted in one way
cut_same : (part other : List ℕ) (behind : Option (List ℕ)) (others : List ℕ) → All (λ byte. byte ≢ 44) part → All (λ byte. byte ≢ 44) other → part ++ comma_before behind ≡ other ++ each_behind others → (part ≡ other) × (comma_before behind ≡ each_behind others)
cut_same part other None [] one also same = (sym (append-nil part) ∙ (same ∙ append-nil other), refl)
cut_same part other None (n ∷ ns) one also same = absurd (has_none 44 part other (decimal n ++ each_behind ns) one (sym (append-nil part) ∙ same))
cut_same part other (Some more) [] one also same = absurd (has_none 44 other part more also (sym (append-nil other) ∙ sym same))
cut_same part other (Some more) (n ∷ ns) one also same =
    let parts : (part ≡ other) × (more ≡ decimal n ++ each_behind ns) = split_in_one_way 44 (part ++ 44 ∷ more) part more other (decimal n ++ each_behind ns) (record { whole = refl; first = one }) (record { whole = same; first = also }) in
    (parts.0, ap (λ bytes. 44 ∷ bytes) parts.1)

-- the first part of a list is its first size
pub part_is_size : (text part : List ℕ) (behind : Option (List ℕ)) (size : ℕ) (others : List ℕ) → IsListPart text part behind → size ≤ MOST_SIZE → text ≡ decimal size ++ each_behind others → IsNumber part size × (comma_before behind ≡ each_behind others)
part_is_size text part behind size others cut small is =
    let same = cut_same part (decimal size) behind others cut.first (lacks_comma size small) (sym cut.whole ∙ is) in
    (record { small = omega (arith, small); spelled = same.0 }, same.1)

-- the next size is the first of the list, and what stands behind it are the others
pub next_is : (text : List ℕ) (size other : ℕ) (behind : Option (List ℕ)) (others : List ℕ) → IsNextSize text size behind → other ≤ MOST_SIZE → text ≡ decimal other ++ each_behind others → (size ≡ other) × (comma_before behind ≡ each_behind others)
next_is text size other behind others next small is =
    let parts = part_is_size text (decimal size) behind other others (record { whole = next.spelled; first = lacks_comma size next.small }) small is in
    (number_once (decimal size) size other (small_number size next.small) parts.0, parts.1)

-- a size within a list is small
pub next_small : (front : List ℕ) (next : ℕ) (others sizes : List ℕ) → AreSizes sizes → sizes ≡ front ++ next ∷ others → next ≤ MOST_SIZE
next_small front next others sizes are is =
    let within : length front < length sizes = omega (arith, ap length is, length-append front (next ∷ others)) in
    subst (λ size. size ≤ MOST_SIZE) (ap (λ xs. get_or xs (length front) 0) is ∙ get_or_at front next others 0 (length front) refl) (are.small (length front) within)

-- So many sizes of a list were read, and the rest is left, which has at least one.
pub record IsRead (text numbers : List ℕ) (count : ℕ) (rest : List ℕ) : Type 0 where
  pub forth : (sizes : List ℕ) → IsSizeList text sizes → (next : ℕ) × (others : List ℕ) × (sizes ≡ take count numbers ++ next ∷ others) × (rest ≡ listed (next ∷ others))
  pub back : (next : ℕ) (others : List ℕ) → rest ≡ listed (next ∷ others) → text ≡ listed (take count numbers ++ next ∷ others)

-- what stands behind the comma begins with a size
others_behind : (more others : List ℕ) → 44 ∷ more ≡ each_behind others → (next : ℕ) × (later : List ℕ) × (others ≡ next ∷ later) × (more ≡ listed (next ∷ later))
others_behind more [] is = absurd cc
others_behind more (next ∷ later) is = (next, later, refl, let whole : 44 ∷ more ≡ 44 ∷ listed (next ∷ later) = is in cc)

-- one more size, where the list goes on
pub read_more : (text numbers rest more : List ℕ) (count size : ℕ) → count < length numbers → IsRead text numbers count rest → IsNextSize rest size (Some more) → IsRead text (set numbers count size) (count + 1) more
read_more text numbers rest more count size within read next = record {
  forth = λ sizes is.
      let old = read.forth sizes is in
      let same = next_is rest size old.0 (Some more) old.1 next (next_small (take count numbers) old.0 old.1 sizes is.are_sizes old.2) old.3 in
      let later = others_behind more old.1 same.1 in
      (later.0, later.1, old.2 ∙ (ap (λ n. take count numbers ++ n ∷ old.1) (sym same.0) ∙ (ap (λ ns. take count numbers ++ size ∷ ns) later.2 ∙ grown later.0 later.1)), later.3);
  back = λ first others is.
      read.back size (first ∷ others) (next.spelled ∙ ap (λ bytes. decimal size ++ 44 ∷ bytes) is) ∙ ap listed (grown first others);
}
  where
    grown : (first : ℕ) (others : List ℕ) → take count numbers ++ size ∷ first ∷ others ≡ take (count + 1) (set numbers count size) ++ first ∷ others
    grown first others = sym (ap (λ front. front ++ first ∷ others) (take_more_set numbers count size within) ∙ append_assoc (take count numbers) (size ∷ []) (first ∷ others))

none_behind : (others : List ℕ) → [] ≡ each_behind others → others ≡ []
none_behind [] is = refl
none_behind (n ∷ ns) is = absurd (let none : [] ≡ 44 ∷ (decimal n ++ each_behind ns) = is in cc)

pub last_is : (text numbers rest : List ℕ) (count size : ℕ) → count < length numbers → IsRead text numbers count rest → IsNextSize rest size None → (sizes : List ℕ) → IsSizeList text sizes → sizes ≡ take (count + 1) (set numbers count size)
last_is text numbers rest count size within read next sizes is =
    let old = read.forth sizes is in
    let same = next_is rest size old.0 None old.1 next (next_small (take count numbers) old.0 old.1 sizes is.are_sizes old.2) old.3 in
    old.2 ∙ (ap (λ n. take count numbers ++ n ∷ old.1) (sym same.0) ∙ (ap (λ ns. take count numbers ++ size ∷ ns) (none_behind old.1 same.1) ∙ sym (take_more_set numbers count size within)))

-- a text lists at most one list of sizes
lists_same : (sizes others : List ℕ) → ((i : ℕ) → i < length sizes → get_or sizes i 0 ≤ MOST_SIZE) → ((i : ℕ) → i < length others → get_or others i 0 ≤ MOST_SIZE) → each_behind sizes ≡ each_behind others → sizes ≡ others
lists_same [] others small also same = sym (none_behind others same)
lists_same (n ∷ ns) [] small also same = absurd (let none : 44 ∷ (decimal n ++ each_behind ns) ≡ [] = same in cc)
lists_same (n ∷ ns) (m ∷ ms) small also same =
    let whole : 44 ∷ (decimal n ++ each_behind ns) ≡ 44 ∷ (decimal m ++ each_behind ms) = same in
    let tails : decimal n ++ each_behind ns ≡ decimal m ++ each_behind ms = cc in
    let n_small : n ≤ MOST_SIZE = small 0 (omega arith) in
    let m_small : m ≤ MOST_SIZE = also 0 (omega arith) in
    let parts = first_same n m ns ms n_small m_small tails in
    let later : ns ≡ ms = lists_same ns ms (λ i within. small (suc i) (omega (arith, within))) (λ i within. also (suc i) (omega (arith, within))) parts.1 in
    let first : n ≡ m = parts.0 in
    cc
  where
    as_comma : (ns : List ℕ) → (behind : Option (List ℕ)) × (each_behind ns ≡ comma_before behind)
    as_comma [] = (None, refl)
    as_comma (k ∷ ks) = (Some (decimal k ++ each_behind ks), refl)

    first_same : (n m : ℕ) (ns ms : List ℕ) → n ≤ MOST_SIZE → m ≤ MOST_SIZE → decimal n ++ each_behind ns ≡ decimal m ++ each_behind ms → (n ≡ m) × (each_behind ns ≡ each_behind ms)
    first_same n m ns ms n_small m_small same =
        let behind = as_comma ns in
        let next : IsNextSize (decimal m ++ each_behind ms) n behind.0 = record { spelled = sym same ∙ ap (λ bytes. decimal n ++ bytes) behind.1; small = n_small } in
        let parts = next_is (decimal m ++ each_behind ms) n m behind.0 ms next m_small refl in
        (parts.0, behind.1 ∙ parts.1)

listed_behind : (sizes : List ℕ) → 1 ≤ length sizes → each_behind sizes ≡ 44 ∷ listed sizes
listed_behind [] some = absurd (omega (arith, some))
listed_behind (n ∷ ns) some = refl

pub size_list_once : (text sizes others : List ℕ) → IsSizeList text sizes → IsSizeList text others → sizes ≡ others
size_list_once text sizes others is also =
    lists_same sizes others is.are_sizes.small also.are_sizes.small
    (listed_behind sizes is.are_sizes.some ∙ (ap (λ bytes. 44 ∷ bytes) (sym is.spelled ∙ also.spelled) ∙ sym (listed_behind others also.are_sizes.some)))
