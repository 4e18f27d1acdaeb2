use Rattle.std.proofs.Common.{◌≡◌, ℕ, List, Option, Some, None, refl, sym, arith}
use Rattle.std.proofs.lemmas.Grind.{common_steps}
use Rattle.std.specs.Option.{option_and_then}
use Rattle.run_model.specs.declared.event.Event.TheVariants.{Send, Take, Ask, Leave}
use Rattle.line_words.specs.Words.{Word, first_word, other_words, reads, ends}
use Rattle.line_words.specs.Numbers.{number}
use Rattle.events_text.specs.EventLine.{two_of, send_of, take_of, ask_of, leave_of}
use Rattle.events_text.proofs.line.event.Goals as goal

-- if two numbers are not read, nothing is read that begins with two
last_none : {Y : Type 0} → (f : ℕ → ℕ → Y) (m : ℕ) (rest : List Word) (o : Option ℕ)
    → ◌≡◌ {A = Option (ℕ × ℕ)} (option_and_then (λ n. Some (m, n)) o) None → option_and_then (λ v. ends (f m v) rest) o ≡ None
last_none f m rest None none = refl
last_none f m rest (Some n) none = absurd (cc)

first_none : {Y : Type 0} → (f : ℕ → ℕ → Y) (rest : List Word) (o : Option ℕ)
    → ◌≡◌ {A = Option (ℕ × ℕ)} (option_and_then (λ m. reads number (λ n words. Some (m, n)) rest) o) None
    → option_and_then (λ u. reads number (λ v. ends (f u v)) rest) o ≡ None
first_none f rest None none = refl
first_none f rest (Some m) none = last_none f m (other_words rest) (option_and_then number (first_word rest)) none

no_two : {Y : Type 0} → (f : ℕ → ℕ → Y) (ws : List Word) → two_of ws ≡ None
    → reads number (λ u. reads number (λ v. ends (f u v))) ws ≡ None
no_two f ws none = first_none f (other_words ws) (option_and_then number (first_word ws)) none

pub returns-in_err-first : goal.returns-in_err-first
returns-in_err-first c =
    let ws = c.args.words.now in
    let none : two_of ws ≡ None = sym c.in_err-first.ensures.value in
    let send : send_of ws ≡ None = no_two Send ws none in
    let take : take_of ws ≡ None = no_two Take ws none in
    let ask : ask_of ws ≡ None = no_two Ask ws none in
    let leave : leave_of ws ≡ None = no_two Leave ws none in
    grind (arith, common_steps, send, take, ask, leave)
