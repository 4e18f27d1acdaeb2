use Rattle.std.proofs.Common.{◌≡◌, ◌∙◌, ℕ, List, [], ◌++◌, ap, codes, append_assoc}
use Rattle.std.specs.Prelude.{string_bytes}
use Rattle.recovery_times.specs.Text.{tenths_line, millis_line}
use Rattle.recovery_times.specs.Times.{window_of, recovery_of, lending_of}
use Rattle.recovery_times.proofs.text.times_text.Goals as goal

-- three lines, each added after those before it
joined : (none first second third a b d : List ℕ) → none ≡ [] → first ≡ none ++ a → second ≡ first ++ b → third ≡ second ++ d → third ≡ a ++ (b ++ d)
joined none first second third a b d is one two three = rw (three, two, one, is) (append_assoc a b d)

pub returns : goal.returns
returns g c =
    let net = c.args.net.now in
    let p = c.args.premises.now in
    let window : c.window.result ≡ window_of p = c.window.ensures in
    let recovers : c.recovers_within.result ≡ recovery_of net p = c.recovers_within.ensures in
    let lends : c.lends_within.result ≡ lending_of net 0 p = c.lends_within.ensures in
    let none = string_bytes c.new-text.result in
    let first = string_bytes c.push_tenths.new.text in
    let second = string_bytes c.push_millis.new.text in
    joined none first second (string_bytes c.push_millis-2.new.text) (tenths_line (codes "window") (window_of p))
    (millis_line (codes "recovers within") (recovery_of net p)) (millis_line (codes "lends within") (lending_of net 0 p)) c.new-text.ensures.bytes
    (c.in_ok-push_tenths.ensures ∙ ap (λ time. none ++ tenths_line (codes "window") time) window)
    (c.in_ok-push_millis.ensures ∙ ap (λ time. first ++ millis_line (codes "recovers within") time) recovers)
    (c.in_ok-push_millis-2.ensures ∙ ap (λ time. second ++ millis_line (codes "lends within") time) lends)
