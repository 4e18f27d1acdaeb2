-- What is found among a folder's entries, one after the other.
use Rattle.std.proofs.Common.{◌≡◌, ◌↔◌, ℕ, ◌+◌, ◌<◌, ◌==◌, List, [], ◌∷◌, ◌++◌, Option, None, Some, Result, Ok, Err, IfOk, IfErr}
use Rattle.std.proofs.Common.{refl, ap, sym, subst, ◌∙◌, arith}
use Rattle.std.specs.Prelude.{cond, option_to_list}
use Rattle.std.specs.Fs.{dir_entry_name}
use Rattle.std.specs.Iterator.{Yields}
use Rattle.std.specs.List.{count_by}
use Rattle.std.specs.List.Sorted.{IsPermutation, IsSorted}
use Rattle.std.specs.Ordering.{nat_cmp}
use Rattle.std.specs.declared.fs.dir.DirEntry.{DirEntry}
use Rattle.std.proofs.lemmas.Bool.Decides.{nat_tests}
use Rattle.std.proofs.lemmas.Grind.{common_steps}
use Rattle.std.proofs.lemmas.List.{append-nil}
use Rattle.std.proofs.lemmas.List.Sorted.{sum_by-IsPermutation}
use Rattle.std.proofs.lemmas.List.Sums.{sum_by-append, sum_by_push}
use Rattle.std.proofs.lemmas.Slice.Eq.{bytes_eq-Decides}
use Rattle.desk_sockets.specs.DeskSockets.{AreDesksAmong, FindsDesks, desk_name, is_desk_of, names_in}

-- each node is found as often as its desk's name
abbrev pub AreFound : List (List ℕ) → List ℕ → Type 0
AreFound names nodes = (node : ℕ) → count_by (λ n. n == node) nodes ≡ count_by (is_desk_of node) names

-- this is the node whose desk has the name, if there is one
abbrev pub IsDeskOf : List ℕ → Option ℕ → Type 0
IsDeskOf name found = (node : ℕ) → (found ≡ Some node) ↔ ((node < 65536) × (name ≡ desk_name node))

counts-one : (name : List ℕ) (found : Option ℕ) → IsDeskOf name found → (node : ℕ)
    → count_by (λ n. n == node) (option_to_list found) ≡ cond (is_desk_of node name) 1 0
counts-one name found is node = grind (arith, common_steps, nat_tests, is node, bytes_eq-Decides name (desk_name node))

module _ {R A F D E : Type 0} where
  names-append : (xs ys : List (Result (DirEntry R A F D) E)) → names_in (xs ++ ys) ≡ names_in xs ++ names_in ys
  names-append [] ys = refl
  names-append (Ok e ∷ xs) ys = ap (λ names. dir_entry_name e ∷ names) (names-append xs ys)
  names-append (Err e ∷ xs) ys = names-append xs ys

  found-more : (given : List (Result (DirEntry R A F D) E)) (nodes : List ℕ) (entry : Result (DirEntry R A F D) E) (found : Option ℕ)
      → AreFound (names_in given) nodes → IfOk entry (λ e. IsDeskOf (dir_entry_name e) found) → IfErr entry (λ _. found ≡ None)
      → AreFound (names_in (given ++ entry ∷ [])) (nodes ++ option_to_list found)
  found-more given nodes (Ok e) found are is none node =
      sum_by-append (λ n. cond (n == node) 1 0) nodes (option_to_list found)
      ∙ ap (λ k. k + count_by (λ n. n == node) (option_to_list found)) (are node)
      ∙ ap (λ k. count_by (is_desk_of node) (names_in given) + k) (counts-one (dir_entry_name e) found is node)
      ∙ sym (sum_by_push (λ name. cond (is_desk_of node name) 1 0) (names_in given) (dir_entry_name e))
      ∙ ap (count_by (is_desk_of node)) (sym (names-append given (Ok e ∷ [])))
  found-more given nodes (Err e) found are is none node =
      let all : names_in (given ++ Err e ∷ []) ≡ names_in given = names-append given (Err e ∷ []) ∙ append-nil (names_in given) in
      ap (λ found. count_by (λ n. n == node) (nodes ++ option_to_list found)) none
      ∙ ap (count_by (λ n. n == node)) (append-nil nodes) ∙ are node ∙ ap (count_by (is_desk_of node)) (sym all)

  -- after one entry more, which is the desk of a node, the nodes with that one
  pub found-one : (given : List (Result (DirEntry R A F D) E)) (nodes new : List ℕ) (entry : Result (DirEntry R A F D) E) (node : ℕ)
      → AreFound (names_in given) nodes → IfOk entry (λ e. IsDeskOf (dir_entry_name e) (Some node)) → IfErr entry (λ _. Some node ≡ None)
      → new ≡ nodes ++ node ∷ [] → AreFound (names_in (given ++ entry ∷ [])) new
  found-one given nodes new entry node are is none new_is n =
      ap (count_by (λ k. k == n)) new_is ∙ found-more given nodes entry (Some node) are is none n

  -- and after one that is no desk, the same
  pub found-none : (given : List (Result (DirEntry R A F D) E)) (nodes : List ℕ) (entry : Result (DirEntry R A F D) E)
      → AreFound (names_in given) nodes → IfOk entry (λ e. IsDeskOf (dir_entry_name e) None)
      → AreFound (names_in (given ++ entry ∷ [])) nodes
  found-none given nodes entry are is n =
      ap (count_by (λ k. k == n)) (sym (append-nil nodes)) ∙ found-more given nodes entry None are is (none entry) n
    where
      none : (e : Result (DirEntry R A F D) E) → IfErr e (λ _. ◌≡◌ {A = Option ℕ} None None)
      none (Ok e) = tt
      none (Err e) = refl

-- in whatever order they are found, sorted they are the desks among the names
sorted-are : (names : List (List ℕ)) (found nodes : List ℕ) → AreFound names found → IsPermutation found nodes
    → IsSorted nat_cmp nodes → AreDesksAmong names nodes
sorted-are names found nodes are same sorted = record {
  ascending = sorted;
  as_often = λ node. sum_by-IsPermutation (λ n. cond (n == node) 1 0) found nodes same ∙ are node;
}

-- so they are what an iterator finds that has come to its end
pub finds : {S R A F D E : Type 0} (next : S → Option (Result (DirEntry R A F D) E) → S → Type 0) (entries start at end : S)
    (given : List (Result (DirEntry R A F D) E)) (found nodes : List ℕ) → start ≡ entries → Yields next start given at → next at None end
    → AreFound (names_in given) found → IsPermutation found nodes → IsSorted nat_cmp nodes → FindsDesks next entries nodes
finds next entries start at end given found nodes is gave ended are same sorted =
    (given, (end, (at, subst (λ s. Yields next s given at) is gave, ended)), sorted-are (names_in given) found nodes are same sorted)
