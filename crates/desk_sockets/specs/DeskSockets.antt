-- Where a node's desk listens, and which nodes have a desk in a folder.
use Rattle.std.specs.Prelude.{◌≡◌, ℕ, Bool, ◌==◌, ◌&&◌, nat_lt, List, [], ◌∷◌, ◌++◌, Option, Result, Ok, Err, codes, count_by, decimal}
use Rattle.std.specs.Fs.{dir_entry_name}
use Rattle.std.specs.Iterator.{Drains}
use Rattle.std.specs.List.Sorted.{IsSorted}
use Rattle.std.specs.Ordering.{nat_cmp}
use Rattle.std.specs.Str.{bytes_eq}
use Rattle.std.specs.declared.fs.dir.DirEntry.{DirEntry}

-- the name of the socket of a node's desk
abbrev pub desk_name : ℕ → List ℕ
desk_name node = codes "desk-" ++ (decimal node ++ codes ".sock")

-- the path of that socket in a folder
abbrev pub desk_path : List ℕ → ℕ → List ℕ
desk_path folder node = folder ++ (codes "/" ++ desk_name node)

-- the path of the socket at which a node shows how it stands
abbrev pub look_path : List ℕ → ℕ → List ℕ
look_path folder node = folder ++ (codes "/look-" ++ (decimal node ++ codes ".sock"))

-- the names of those entries of a folder that could be read
abbrev pub names_in : {R A F D E : Type 0} → List (Result (DirEntry R A F D) E) → List (List ℕ)
names_in [] = []
names_in (Ok entry ∷ entries) = dir_entry_name entry ∷ names_in entries
names_in (Err _ ∷ entries) = names_in entries

-- the name is that of a node's desk
abbrev pub is_desk_of : ℕ → List ℕ → Bool
is_desk_of node name = nat_lt node 65536 && bytes_eq name (desk_name node)

-- The nodes are those whose desks are among the names: each as often as its desk's name, no other, and by ascending id.
pub record AreDesksAmong (names : List (List ℕ)) (nodes : List ℕ) : Type 0 where
  pub ascending : IsSorted nat_cmp nodes
  pub as_often : (node : ℕ) → count_by (λ n. n == node) nodes ≡ count_by (is_desk_of node) names

-- The iterator gives the entries of a folder to its end, and the nodes are those whose desks are among them.
abbrev pub FindsDesks : {S R A F D E : Type 0} → (S → Option (Result (DirEntry R A F D) E) → S → Type 0) → S → List ℕ → Type 0
FindsDesks {R = R} {A = A} {F = F} {D = D} {E = E} next entries nodes =
    (given : List (Result (DirEntry R A F D) E)) × Drains next entries given × AreDesksAmong (names_in given) nodes
