use Rattle.std.proofs.Common.{◌≡◌, ◌∙◌, ap, suc, ◌++◌, replicate, string_bytes, arith}
use Rattle.run_film.specs.Beats.{beats_at, film_of}
use Rattle.run_film.specs.Tracks.{more_values, value_of}
use Rattle.run_film.proofs.Tracks.{some_beats, values_are}
use Rattle.run_film.proofs.track.Track.values.Goals as goal

pub returns : goal.returns
returns c =
    let film = film_of c.args.shown in
    let self = c.args.self in
    let count = c.saturating_sub.result in
    let first : beats_at film 0 ≡ suc count = omega (arith, some_beats film, c.beats_at.ensures, c.saturating_sub.ensures) in
    let begun =
    c.in_ok-push_value.ensures
    ∙ ap (λ s. string_bytes c.new-text.result ++ value_of self s) c.opening.ensures
    ∙ ap (λ xs. xs ++ value_of self film.opening) c.new-text.ensures.bytes in
    let held =
    c.in_ok-push_beats.ensures
    ∙ ap (λ s. string_bytes c.push_value.new.text ++ more_values self (replicate count s)) c.opening-2.ensures
    ∙ ap (λ xs. xs ++ more_values self (replicate count film.opening)) begun in
    values_are self film count _ _ first held c.in_ok-push_later.ensures
