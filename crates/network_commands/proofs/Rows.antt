-- Small examples of what `bound` and `network` print, and of the faults that they end with, and some that are none.
use Rattle.std.proofs.Common.{◌≡◌, ◌≢◌, ◌++◌, ℕ, suc, true, false, List, [], ◌∷◌, Result, Ok, Err, Some, None, codes, decimal, ap, refl, arith}
use Rattle.std.specs.Fmt.{digits}
use Rattle.serde_json.specs.Data as json
use Rattle.topology.specs.Network.{Network}
use Rattle.topology.specs.Accept.{IsAccepted}
use Rattle.topology.specs.Reading.{read_text}
use Rattle.topology.specs.Refusal.{Values, values_of}
use Rattle.topology.specs.declared.fault.NetFault.{NetFault}
use Rattle.topology.specs.declared.fault.NetFault.TheVariants.{BadRoot, NotToml, TooSmall}
use Rattle.topology.proofs.Rows.{two-accepted}
use Rattle.network_file.specs.declared.fault.NetworkFault.TheVariants.{Refused, Unreadable}
use Rattle.network_kinds.specs.Made.{values_for}
use Rattle.network_kinds.specs.declared.kind.Kind.TheVariants.{Line}
use Rattle.recovery_times.specs.Times.{usual}
use Rattle.command_faults.specs.declared.fault.Fault.TheVariants.{Closed, Memory, Network as NetworkRefused, NoNode}
use Rattle.network_commands.specs.declared.network.WantedNetwork.{WantedNetwork}
use Rattle.network_commands.specs.Bound.{bound_text, nodes_line, parent_word, shown_text, timed_text}
use Rattle.network_commands.specs.BoundData.{bound_data, count}
use Rattle.network_commands.specs.Faults.{IsUnprinted}
use Rattle.network_commands.specs.Named.{IsTextOf, IsUnnamed}

abbrev two_nodes : Network
two_nodes = record { nodes = 2; root = 0; capacity = 1; lease = 0; edges = (0, 1) ∷ [] }

-- ---- `bound`

-- for two nodes the counter's modulus is 2 * 1 + 3, the ring's 6 * (2 - 1) + 1, and the bound 69
prints-bound : bound_text two_nodes
    ≡ codes "nodes 2\nedges 1\ncapacity 1\ncounter 5\nring 7\ndistances 0 1\nparents none 0\nsweeps " ++ (decimal 69 ++ codes "\n")
unfolding digits
prints-bound = refl

-- the sharper bound has its own line, if it is asked for
prints-sharp : shown_text two_nodes true
    ≡ bound_text two_nodes ++ (codes "sharp " ++ (decimal 35 ++ codes "\n"))
prints-sharp = refl

prints_not-sharp : shown_text two_nodes false ≡ bound_text two_nodes
prints_not-sharp = refl

parent_not-none : parent_word (Some 0) ≢ codes "none"
unfolding digits
parent_not-none e = grind (arith, e)

prints-nodes : nodes_line (codes "parents") 2 (λ v. decimal v) ≡ codes "parents 0 1\n"
unfolding digits
prints-nodes = refl

-- 35 sweeps of 12.5 ms, and 8 * 1 * 2 of them for one who waits alone
prints-times : timed_text two_nodes false (Some usual)
    ≡ bound_text two_nodes ++ codes "window 12.5 ms\nrecovers within 438 ms\nlends within 200 ms\n"
unfolding digits
prints-times = refl

prints_not-times : timed_text two_nodes false None ≡ bound_text two_nodes
unfolding digits
prints_not-times = refl

-- the same as an object, whose members stand in the order of their names
bound-object : bound_data two_nodes true None
    ≡ json.object (json.member (codes "capacity") (count 1) (json.member (codes "counter") (count 5)
    (json.member (codes "distances") (json.array (json.item (count 0) (json.item (count 1) json.no_items)))
    (json.member (codes "edges") (count 1) (json.member (codes "nodes") (count 2)
    (json.member (codes "parents") (json.array (json.item json.null (json.item (count 0) json.no_items))) (json.member (codes "ring") (count 7)
    (json.member (codes "sharp") (count 35) (json.member (codes "sweeps") (count 69) json.no_members)))))))))
bound-object = refl

-- with times, and without the sharp bound
bound-times : bound_data two_nodes false (Some usual)
    ≡ json.object (json.member (codes "capacity") (count 1) (json.member (codes "counter") (count 5)
    (json.member (codes "distances") (json.array (json.item (count 0) (json.item (count 1) json.no_items)))
    (json.member (codes "edges") (count 1) (json.member (codes "lends_within_ms") (count 200) (json.member (codes "nodes") (count 2)
    (json.member (codes "parents") (json.array (json.item json.null (json.item (count 0) json.no_items)))
    (json.member (codes "recovers_within_ms") (count 438) (json.member (codes "ring") (count 7)
    (json.member (codes "sweeps") (count 69) (json.member (codes "window_us") (count 12500) json.no_members)))))))))))
bound-times = refl

-- how many members there are
abbrev members_in : json.Members → ℕ
members_in json.no_members = 0
members_in (json.member k d ms) = suc (members_in ms)

abbrev size_of : json.Data → ℕ
size_of (json.object ms) = members_in ms
size_of _ = 0

bound_not-sharp : bound_data two_nodes false None ≢ bound_data two_nodes true None
bound_not-sharp e = let sizes : 8 ≡ 9 = ap size_of e in omega (arith, sizes)

-- ---- `network`

abbrev wanted : WantedNetwork
wanted = record { kind = Line; nodes = 2; root = 0; capacity = 1; lease = 0 }

accepted : IsAccepted (values_for Line 2 0 1 0) two_nodes
accepted = record { same = refl; no_fault = refl; network = two-accepted }

module _ (text : List ℕ) where
  text-of_two : read_text text ≡ Ok (values_for Line 2 0 1 0) → IsTextOf wanted text
  text-of_two read = (two_nodes, accepted, (values_for Line 2 0 1 0, read, accepted))

  -- what is no TOML is the file of no network
  text_not-toml : read_text text ≡ Err NotToml → ¬ IsTextOf wanted text
  text_not-toml read is = let e : ◌≡◌ {A = Result Values NetFault} (Err NotToml) (Ok is.2.0) = rw read at is.2.1 in absurd cc

  -- nor is the file of a network with another lease
  text_not-lease : read_text text ≡ Ok (values_for Line 2 0 1 5) → ¬ IsTextOf wanted text
  text_not-lease read is =
      let e : ◌≡◌ {A = Result Values NetFault} (Ok (values_for Line 2 0 1 5)) (Ok is.2.0) = rw read at is.2.1 in
      let five : values_for Line 2 0 1 5 ≡ is.2.0 = cc in
      let same : values_of is.0 ≡ is.2.0 = is.2.2.same in
      let zero : values_of is.0 ≡ values_for Line 2 0 1 0 = is.1.same in
      let leases : ◌≡◌ {A = ℕ} 5 0 = cc in omega (arith, leases)

-- ---- faults

-- a line of one node is too small, and one of two is not
unnamed-small : IsUnnamed (record wanted { nodes = 1 }) (NetworkRefused (Refused TooSmall))
unnamed-small = refl

unnamed_not-two : ¬ IsUnnamed wanted (NetworkRefused (Refused TooSmall))
unnamed_not-two e = grind (arith, e)

-- of two faults the first is answered: the root 5 is none of its nodes, either
unnamed_not-second : ¬ IsUnnamed (record wanted { nodes = 1; root = 5 }) (NetworkRefused (Refused BadRoot))
unnamed_not-second e = grind (arith, e)

-- no file is read
unnamed_not-file : ¬ IsUnnamed wanted (NetworkRefused Unreadable)
unnamed_not-file never = never

unnamed_not-node : ¬ IsUnnamed wanted NoNode
unnamed_not-node never = never

unprinted-memory : IsUnprinted Memory
unprinted-memory = tt

unprinted-closed : IsUnprinted Closed
unprinted-closed = tt

unprinted_not-node : ¬ IsUnprinted NoNode
unprinted_not-node never = never
