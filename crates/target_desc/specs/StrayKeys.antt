-- Whether a key says nothing.
use Rattle.std.specs.Prelude.{ℕ, Bool, ◌&&◌, not, List, codes}
use Rattle.std.specs.Str.{bytes_eq}

-- a key of a document other than its two
abbrev pub is_stray : List ℕ → Bool
is_stray key = not (bytes_eq key (codes "traces")) && not (bytes_eq key (codes "event"))

-- a key of an entry other than its three
abbrev pub is_stray_field : List ℕ → Bool
is_stray_field key = not (bytes_eq key (codes "name"))
    && (not (bytes_eq key (codes "kind")) && not (bytes_eq key (codes "mate")))
