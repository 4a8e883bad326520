use Rattle.std.proofs.Common.{◌≡◌, ap, ◌∙◌, arith, flat_map}
use Rattle.std.specs.Prelude.{max}
use Rattle.dgc_server.specs.StandsForCalls.{LeaseTable}
use Rattle.dgc_server.specs.HolderIndex.{freed_of}
use Rattle.dgc_server.proofs.Freeing.{if_ok, freed-whole, freed-held}
use Rattle.dgc_server.proofs.leases.Leases.freed_objects.Goals as goal

pub returns-clause-whole : goal.returns-clause-whole
returns-clause-whole c = if_ok c.freed_objects.result c.freed_objects.ensures (λ os e lease moment calls s o before after.
    let m : c.self.inside.clients.moment ≡ moment = ap (λ (t : LeaseTable). t.moment) c.self.view_is ∙ s.is_moment in
    let time : c.time.result ≡ max c.args.now moment = c.time.ensures.value ∙ ap (max c.args.now) s.is_moment in
    freed-whole lease moment (max c.args.now moment) c.args.self.now calls os.items (omega arith) s c.time.ensures.sound.ordered c.time.ensures.sound.once
    (e ∙ ap (λ k. flat_map (freed_of k c.time.result) c.self.inside.clients.entries) m ∙ ap (λ k. flat_map (freed_of moment k) c.self.inside.clients.entries) time
    ∙ ap (flat_map (freed_of moment (max c.args.now moment))) (ap (λ (t : LeaseTable). t.entries) c.self.view_is))
    o before after)

pub returns-clause-held : goal.returns-clause-held
returns-clause-held c = if_ok c.freed_objects.result c.freed_objects.ensures (λ os e lease moment calls s o there.
    let m : c.self.inside.clients.moment ≡ moment = ap (λ (t : LeaseTable). t.moment) c.self.view_is ∙ s.is_moment in
    freed-held lease moment c.time.result c.args.self.now calls os.items s c.time.ensures.sound.ordered c.time.ensures.sound.once
    (e ∙ ap (λ k. flat_map (freed_of k c.time.result) c.self.inside.clients.entries) m
    ∙ ap (flat_map (freed_of moment c.time.result)) (ap (λ (t : LeaseTable). t.entries) c.self.view_is))
    o there)
