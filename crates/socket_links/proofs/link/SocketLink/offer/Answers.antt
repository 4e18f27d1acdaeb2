use Rattle.std.proofs.Common.{rules, length, ap, sym, ◌∙◌, refl, arith}
use Rattle.std.proofs.lemmas.List.{length-drop}
use Rattle.socket_links.proofs.link.SocketLink.offer.Goals as goal

pub returns-then-self-lt-LINE : goal.returns-then-self-lt-LINE
returns-then-self-lt-LINE g c =
    let l = c.args.self.now in
    let size = l.within.4 in (
      λ none. (let len = sym (length-drop l.sent l.line) ∙ ap length none in let no : ⊥ = omega (arith, len, size, c.if-self-lt-LINE.true) in no),
      search rules,
      refl,
    )
