-- Small examples of what is said to clients in a turn, and some that look like them and are not.
use Rattle.std.proofs.Common.{◌≡◌, ◌∙◌, ℕ, Bool, true, false, if◌then◌else◌, List, ◌∷◌, ◌++◌, Option, None, Some, codes, refl, sym, subst, ap, arith, append-nil, All, []}
use Rattle.std.proofs.lemmas.Bool.{both_ways}
use Rattle.std.proofs.lemmas.List.Elements.{All-head, All-nil}
use Rattle.slab.specs.Slab.{get}
use Rattle.lock_desk.specs.Desk.{ask_fault, is_stranger}
use Rattle.lock_desk.specs.declared.act.DeskAct.TheVariants.{Quiet, Lost}
use Rattle.lock_desk.specs.declared.client_line.ClientLine.{ClientLine}
use Rattle.lock_desk.specs.declared.client_line.ClientLine.TheVariants.{Lock, Unlock, Status, Unknown}
use Rattle.lock_desk.specs.declared.fault.AskFault.{AskFault}
use Rattle.lock_desk.specs.declared.fault.AskFault.TheVariants.{Full, Twice}
use Rattle.node_core.specs.Site.{Site}
use Rattle.node_core.specs.State.{LocalState}
use Rattle.node_core.specs.View.{NodeView, site_in, state_of}
use Rattle.node_core.specs.declared.ticked.Ticked.{Ticked}
use Rattle.node_connections.specs.socket_links.Counts.{Counts}
use Rattle.node_connections.specs.declared.clients.Client.{Client}
use Rattle.node_connections.specs.declared.clients.Clients.{Clients}
use Rattle.node_service.specs.Answers.{answer_text, lock_answer}
use Rattle.node_connections.specs.Clients.{answers_of, is_connected, IsReported}
use Rattle.node_service.specs.Deeds.{Became, Deed, IsLeaveOfGone, IsOfClient, Leaves}
use Rattle.node_loop.specs.Moments.{Moment}
use Rattle.node_loop.specs.Noting.{AttendIsNoted, DidListen, TurnIsNoted}
use Rattle.node_service.specs.NotesView.{NotesView}
use Rattle.node_service.specs.Serving.{answers_to}
use Rattle.node_loop.specs.Said.{AttendSays, HasAnswered, ListensTo, TurnSays}
use Rattle.node_connections.specs.Said.{IsSaid, SaidAt}
use Rattle.node_service.specs.Services.{lines_of}
use Rattle.node_connections.proofs.BeingRead.{read-gone}
use Rattle.node_service.proofs.Pieces.{gave-alone}
use Rattle.node_connections.proofs.Ends.{at-silent}
use Rattle.node_connections.proofs.Heard.{unheard-same}
use Rattle.node_connections.proofs.Lives.{admits-none}
use Rattle.node_connections.proofs.Saying.{is-said-join, nothing-same, reported-said}
use Rattle.node_connections.proofs.RowsSaid.{not-nothing, nothing-still, waits-said, writes-nothing}

abbrev first-of : List ℕ → ℕ
first-of [] = 0
first-of (x ∷ xs) = x

-- no answer to a line says that a loan began
lock-not : (fault : Option AskFault) (rest : List ℕ) → lock_answer fault ++ rest ≡ codes "granted\n" → lock_answer fault ≡ []
lock-not None rest e = refl
lock-not (Some Full) rest e = (let n : 102 ≡ 103 = ap first-of e in absurd (omega (arith, n)))
lock-not (Some Twice) rest e = (let n : 116 ≡ 103 = ap first-of e in absurd (omega (arith, n)))

unlock-not : (is_none : Bool) (rest : List ℕ) → (if is_none then codes "stranger\n" else codes "released\n") ++ rest ≡ codes "granted\n" → ⊥
unlock-not true rest e = (let n : 115 ≡ 103 = ap first-of e in omega (arith, n))
unlock-not false rest e = (let n : 114 ≡ 103 = ap first-of e in omega (arith, n))

text-not : (site : Site) (line : ClientLine) (s : LocalState) (rest : List ℕ) → answer_text site 3 line s ++ rest ≡ codes "granted\n" → answer_text site 3 line s ≡ []
text-not site Lock s rest e = lock-not (ask_fault 3 s.desk) rest e
text-not site Unlock s rest e = absurd (unlock-not (is_stranger 3 s.desk) rest e)
text-not site Status s rest e = (let n : 110 ≡ 103 = ap first-of e in absurd (omega (arith, n)))
text-not site Unknown s rest e = (let n : 117 ≡ 103 = ap first-of e in absurd (omega (arith, n)))

not-granted : (site : Site) (lines : List (ClientLine × LocalState)) → answers_to site 3 lines ≡ codes "granted\n" → ⊥
not-granted site [] e = (let n : 0 ≡ 103 = ap first-of e in omega (arith, n))
not-granted site (x ∷ lines) e =
    let none = text-not site x.0 x.1 (answers_to site 3 lines) e in
    not-granted site lines (subst (λ text. text ++ answers_to site 3 lines ≡ codes "granted\n") none e)

-- the answers to two lines, each in the state of its time
answers-two : (site : Site) (s : LocalState) → answers_to site 3 ((Unknown, s) ∷ ((Unknown, s) ∷ [])) ≡ codes "unknown\nunknown\n"
answers-two site s = refl

module _ {P A : Type 0} (gave took : P → Option (List ℕ)) (counts : P → Counts) (old new : Clients P A) (a b : Client P) where
  -- nobody is connected
  abbrev IsAlone : Clients P A → Type 0
  IsAlone clients = (t : ℕ) → get clients.table t ≡ None

  -- a node without clients does nothing for them
  abbrev has-answered : {x y : NodeView} (serves : Became IsOfClient x y) → serves.deeds ≡ [] → IsAlone old → HasAnswered gave took counts serves old old
  has-answered serves none alone = record {
    came = old;
    admits = admits-none old;
    services = [];
    deeds_are = none;
    gone = tt;
    heard = λ t. ([], unheard-same gave old old refl t);
    said = nothing-still gave took counts old new a b;
    reads = λ t few. read-gone gave took counts (get old.table t) (get old.table t) (alone t);
    may_have_more = false;
    pieces = gave-alone gave took counts old alone;
    ends = λ t. at-silent gave took counts (get old.table t) (get old.table t) (answers_of old t) (answers_of old t) refl refl;
  }

  -- nothing waits for anybody
  abbrev NoneWaits : Clients P A → Type 0
  NoneWaits clients = (t : ℕ) → answers_of clients t ≡ []

  all-of_none : (kind : Deed → Type 0) (ds : List Deed) → ds ≡ [] → All kind ds
  all-of_none kind ds none = subst (λ es. All kind es) (sym none) (All-nil kind)

  -- a turn in which nothing is said
  turn-quiet : (ticked : Ticked) (now : ℕ) (m w : Moment P) (n o : NotesView) (did : TurnIsNoted gave took counts ticked now m w n o) → did.turns.listens.serves.deeds ≡ [] → did.turns.acts.leaves.deeds ≡ []
      → did.turns.leaves.deeds ≡ [] → ticked.act ≡ Quiet → IsAlone old → NoneWaits old → TurnSays gave took counts ticked now m w n o old old false
  turn-quiet ticked now m w n o did served gone last quiet alone none = record {
    did = did;
    heard = old;
    acted = old;
    answers = has-answered did.turns.listens.serves served alone;
    reported = subst (λ act. IsReported act old old) (sym quiet) refl;
    writes = writes-nothing gave took counts old new a b old none;
    gone = all-of_none (IsLeaveOfGone (is_connected old)) did.turns.acts.leaves.deeds gone;
    gone_at_last = all-of_none (IsLeaveOfGone (is_connected old)) did.turns.leaves.deeds last;
    more = λ some. some;
  }

  attend-quiet : (now : ℕ) (m w : Moment P) (n o : NotesView) (did : AttendIsNoted gave took counts now m w n o) → did.attends.listens.serves.deeds ≡ [] → did.attends.leaves.deeds ≡ []
      → IsAlone old → NoneWaits old → AttendSays gave took counts now m w n o old old false
  attend-quiet now m w n o did served last alone none = record {
    did = did;
    heard = old;
    answers = has-answered did.attends.listens.serves served alone;
    writes = writes-nothing gave took counts old new a b old none;
    gone = all-of_none (IsLeaveOfGone (is_connected old)) did.attends.leaves.deeds last;
    more = λ some. some;
  }

  listens-alone : (m w : Moment P) (n o : NotesView) (did : DidListen gave took counts m w n o) → did.listens.serves.deeds ≡ [] → IsAlone old → ListensTo gave took counts m w n o old old false
  listens-alone m w n o did served alone = record { did = did; answers = has-answered did.listens.serves served alone; more = λ some. some }

  -- a connected client's ticket does not leave after the tick
  attend_not-left : (now : ℕ) (m w : Moment P) (n o : NotesView) (has_more : Bool) → is_connected new 3 ≡ true → (x : AttendSays gave took counts now m w n o old new has_more) → x.did.attends.leaves.deeds ≡ Leaves 3 ∷ [] → ⊥
  attend_not-left now m w n o has_more there x leaves =
      let gone : is_connected new 3 ≡ false = All-head (IsLeaveOfGone (is_connected new)) (Leaves 3) [] (subst (λ ds. All (IsLeaveOfGone (is_connected new)) ds) leaves x.gone) in
      both_ways (is_connected new 3) gone there

  module _ (was : get old.table 3 ≡ Some a) (is : get new.table 3 ≡ Some b) (before : took a.pipe ≡ Some []) (after : took b.pipe ≡ Some []) (waits : answers_of old 3 ≡ []) where
    -- what was said in a turn
    said-in : (ticked : Ticked) (now : ℕ) (m w : Moment P) (n o : NotesView) (has_more : Bool) (text : List ℕ) → ((x y : Clients P A) → IsReported ticked.act x y → IsSaid took text 3 x y) → (x : TurnSays gave took counts ticked now m w n o old new has_more)
        → answers_of new 3 ≡ answers_to (site_in x.did.turns.listens.heard) 3 (lines_of 3 x.answers.services (state_of x.did.turns.listens.heard)) ++ text
    said-in ticked now m w n o has_more text reports x =
        let told = answers_to (site_in x.did.turns.listens.heard) 3 (lines_of 3 x.answers.services (state_of x.did.turns.listens.heard)) in
        let came = x.answers.came in
        let there : is_connected old 3 ≡ true = rw was refl in
        let same = (x.answers.admits 3).0 there in
        let answered : IsSaid took told 3 old x.heard =
        subst (λ o. SaidAt took told o (answers_of old 3) (get x.heard.table 3) (answers_of x.heard 3)) same.0
        (subst (λ xs. SaidAt took told (get came.table 3) xs (get x.heard.table 3) (answers_of x.heard 3)) same.1 (x.answers.said 3)) in
        let reported = is-said-join took told text 3 old x.heard x.acted answered (reports x.heard x.acted x.reported) in
        waits-said gave took counts old new a b was is before after waits (told ++ text) (subst (λ all. IsSaid took all 3 old new) (append-nil (told ++ text)) (is-said-join took (told ++ text) [] 3 old x.acted new reported (x.writes.says_nothing 3)))

    -- a client that lost the lock hears so
    turn_not-silent : (ticked : Ticked) (now : ℕ) (m w : Moment P) (n o : NotesView) (has_more : Bool) → ticked.act ≡ Lost 3 → answers_of new 3 ≡ [] → ¬ TurnSays gave took counts ticked now m w n o old new has_more
    turn_not-silent ticked now m w n o has_more lost silent x =
        let all = said-in ticked now m w n o has_more (codes "lost\n") (λ c d reported. (reported-said took (codes "lost\n") 3 c d (subst (λ act. IsReported act c d) lost reported)).0) x in
        not-nothing (answers_to (site_in x.did.turns.listens.heard) 3 (lines_of 3 x.answers.services (state_of x.did.turns.listens.heard))) 108 (codes "ost\n") (sym all ∙ silent)

    -- no client hears that it has the lock if no loan began
    turn_not-granted : (ticked : Ticked) (now : ℕ) (m w : Moment P) (n o : NotesView) (has_more : Bool) → ticked.act ≡ Quiet → answers_of new 3 ≡ codes "granted\n" → ¬ TurnSays gave took counts ticked now m w n o old new has_more
    turn_not-granted ticked now m w n o has_more quiet text x =
        let same = λ (c d : Clients P A) (reported : IsReported ticked.act c d). subst (λ act. IsReported act c d) quiet reported in
        let all = said-in ticked now m w n o has_more [] (λ c d reported. nothing-same took c d (ap (λ z. z.table) (same c d reported)) (ap (λ z. z.answers) (same c d reported)) 3) x in
        let lines = lines_of 3 x.answers.services (state_of x.did.turns.listens.heard) in
        let site = site_in x.did.turns.listens.heard in
        not-granted site lines (sym (append-nil (answers_to site 3 lines)) ∙ (sym all ∙ text))
