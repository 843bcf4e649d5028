-- How what is left and what was taken go on over several calls.
use Rattle.std.proofs.Common.{ℕ, ◌+◌, ◌-◌, List, ◌++◌, length, take, drop, Option, Some, None, sym, ap, ◌∙◌, subst, arith, append_assoc}
use Rattle.std.proofs.Math.Seq.{take-add, take-append-add}
use Rattle.std.proofs.lemmas.List.{take_rest, take-append-le, length-append}
use Rattle.std.specs.Option.{option_map}
use Rattle.poet_io.specs.Grows.{Grows, GrowsByPrefix}
use Rattle.poet_io.specs.Takes.{TakesPrefix}

-- a sink that took bytes and then more took both
pub Grows-append : (a b c : Option (List ℕ)) (xs ys : List ℕ) → Grows a b xs → Grows b c ys → Grows a c (xs ++ ys)
Grows-append None b c xs ys first second = second ∙ ap (option_map (λ taken. taken ++ ys)) first
Grows-append (Some x) b c xs ys first second =
    (second ∙ ap (option_map (λ taken. taken ++ ys)) first) ∙ ap Some (append_assoc x xs ys)

-- a source that gave bytes and then more gave both
pub TakesPrefix-append : (a b c : Option (List ℕ)) (xs ys : List ℕ) → TakesPrefix a b xs → TakesPrefix b c ys → TakesPrefix a c (xs ++ ys)
TakesPrefix-append a b None xs ys first second = first ∙ ap (option_map (λ rest. xs ++ rest)) second
TakesPrefix-append a b (Some z) xs ys first second =
    (first ∙ ap (option_map (λ rest. xs ++ rest)) second) ∙ ap Some (sym (append_assoc xs ys z))

-- a sink that took a prefix of some bytes and then a prefix of the rest took a longer prefix
pub Grows_further : (a b c : Option (List ℕ)) (bytes : List ℕ) (n m : ℕ) → Grows a b (take n bytes) → Grows b c (take m (take (length bytes - n) (drop n bytes))) → Grows a c (take (n + m) bytes)
Grows_further a b c bytes n m first second =
    rw (take-add n m bytes) (Grows-append a b c (take n bytes) (take m (drop n bytes)) first (rw (take_rest bytes n) at second))

-- a sink that took a prefix of some bytes took a prefix of these and more
pub GrowsByPrefix-more : (a b : Option (List ℕ)) (xs ys : List ℕ) → GrowsByPrefix a b xs → GrowsByPrefix a b (xs ++ ys)
GrowsByPrefix-more a b xs ys part = (
  part.0,
  (let size = length-append xs ys in let within = part.1 in omega (arith, size, within)),
  subst (Grows a b) (sym (take-append-le part.0 xs ys part.1)) part.2,
)

-- a sink that took bytes and then a prefix of more took a prefix of both
pub GrowsByPrefix-after : (a b c : Option (List ℕ)) (xs ys : List ℕ) → Grows a b xs → GrowsByPrefix b c ys → GrowsByPrefix a c (xs ++ ys)
GrowsByPrefix-after a b c xs ys first part = (
  length xs + part.0,
  (let size = length-append xs ys in let within = part.1 in omega (arith, size, within)),
  subst (Grows a c) (sym (take-append-add xs ys part.0)) (Grows-append a b c xs (take part.0 ys) first part.2),
)
