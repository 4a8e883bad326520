use Rattle.std.proofs.Common.{◌≡◌, ℕ, ◌<◌, ◌≤◌, refl, ap, sym, subst, ◌∙◌, arith, w64, Err, max}
use Rattle.std.specs.Prelude.{ℤ}
use Rattle.std.proofs.lemmas.Int.{to_z-of_z}
use Rattle.history.specs.declared.calls.CallKind.TheVariants.{Dirty}
use Rattle.history.specs.Leases.{grant}
use Rattle.history.specs.declared.limits.TheConstants.{MAX_CLIENTS, MAX_PAIRS}
use Rattle.dgc_server.specs.declared.leases.LeaseFault.TheVariants.{Clients, Pairs}
use Rattle.dgc_server.specs.Counts.{dirty_call, clients_with_call, pairs_with_call}
use Rattle.dgc_server.specs.StandsForCalls.{LeaseTable, table_after}
use Rattle.dgc_server.specs.Table.{clients_after, pairs_after}
use Rattle.dgc_server.proofs.Trimmed.{trimmed-noted}
use Rattle.dgc_server.proofs.Told.{no-more, call-told, pairs-told, clients-told, error-is, error-same}
use Rattle.dgc_server.proofs.leases.Leases.dirty.Goals as goal

pub returns-then-is_past_clients-clause-clients : goal.returns-then-is_past_clients-clause-clients
returns-then-is_past_clients-clause-clients c lease moment calls s =
    let counted : clients_after c.self.inside.clients.entries c.args.client.now c.time-time.result ≡ clients_with_call lease (max c.args.now moment) calls c.args.client.now =
    ap (λ es. clients_after es c.args.client.now c.time-time.result) (ap (λ (t : LeaseTable). t.entries) c.self.view_is)
    ∙ sym (clients-told lease moment c.args.now c.time-time.result c.args.client.now c.args.self.now calls c.time-time.ensures.sound.ordered c.time-time.ensures.value s) in
    let P : ℕ → Type 0 = λ n. MAX_CLIENTS < n in
    (λ h. subst P counted (c.is_past_clients.ensures.0 c.if-is_past_clients.true), λ h. refl)

pub returns-then-is_past_clients-clause-pairs : goal.returns-then-is_past_clients-clause-pairs
returns-then-is_past_clients-clause-pairs c lease moment calls s =
    let counted : clients_after c.self.inside.clients.entries c.args.client.now c.time-time.result ≡ clients_with_call lease (max c.args.now moment) calls c.args.client.now =
    ap (λ es. clients_after es c.args.client.now c.time-time.result) (ap (λ (t : LeaseTable). t.entries) c.self.view_is)
    ∙ sym (clients-told lease moment c.args.now c.time-time.result c.args.client.now c.args.self.now calls c.time-time.ensures.sound.ordered c.time-time.ensures.value s) in
    let P : ℕ → Type 0 = λ n. MAX_CLIENTS < n in
    let many : MAX_CLIENTS < clients_with_call lease (max c.args.now moment) calls c.args.client.now = subst P counted (c.is_past_clients.ensures.0 c.if-is_past_clients.true) in
    (λ h. absurd (cc), λ h. (let few = h.0 in absurd (omega arith)))

pub returns-in_err-note-clause-clients : goal.returns-in_err-note-clause-clients
returns-in_err-note-clause-clients c lease moment calls s =
    let counted : clients_after c.self.inside.clients.entries c.args.client.now c.time-time.result ≡ clients_with_call lease (max c.args.now moment) calls c.args.client.now =
    ap (λ es. clients_after es c.args.client.now c.time-time.result) (ap (λ (t : LeaseTable). t.entries) c.self.view_is)
    ∙ sym (clients-told lease moment c.args.now c.time-time.result c.args.client.now c.args.self.now calls c.time-time.ensures.sound.ordered c.time-time.ensures.value s) in
    let Q : ℕ → Type 0 = λ n. MAX_CLIENTS < n in
    let few : clients_with_call lease (max c.args.now moment) calls c.args.client.now ≤ MAX_CLIENTS =
    no-more MAX_CLIENTS _ (λ h. (let past = c.is_past_clients.ensures.1 (subst Q (sym counted) h) in let none = c.if-is_past_clients.false in absurd (cc))) in
    let error : c.from_residual.result ≡ Err c.in_err-note.field-0.0 = error-is c.from_residual.result c.in_err-note.field-0.0 c.from_residual.ensures.1 in
    (λ h. absurd (c.in_err-note.ensures.clients (ap (λ f. Err f) (error-same c.in_err-note.field-0.0 Clients (sym error ∙ h)))), λ h. absurd (omega arith))

pub returns-in_err-note-clause-pairs : goal.returns-in_err-note-clause-pairs
returns-in_err-note-clause-pairs c lease moment calls s =
    let counted : clients_after c.self.inside.clients.entries c.args.client.now c.time-time.result ≡ clients_with_call lease (max c.args.now moment) calls c.args.client.now =
    ap (λ es. clients_after es c.args.client.now c.time-time.result) (ap (λ (t : LeaseTable). t.entries) c.self.view_is)
    ∙ sym (clients-told lease moment c.args.now c.time-time.result c.args.client.now c.args.self.now calls c.time-time.ensures.sound.ordered c.time-time.ensures.value s) in
    let pairs : pairs_with_call lease calls (dirty_call (max c.args.now moment) c.args.client.now c.args.number c.args.asked c.args.objects.now) ≡ pairs_after c.time-time.result c.args.self.now.entries c.args.client.now Dirty c.args.objects.now =
    pairs-told lease moment c.args.now c.time-time.result Dirty c.args.client.now c.args.number c.args.asked c.args.objects.now c.args.self.now calls c.time-time.ensures.sound.ordered c.time-time.ensures.value s in
    let P : ℕ → Type 0 = λ n. MAX_PAIRS < n in
    let Q : ℕ → Type 0 = λ n. MAX_CLIENTS < n in
    let few : clients_with_call lease (max c.args.now moment) calls c.args.client.now ≤ MAX_CLIENTS =
    no-more MAX_CLIENTS _ (λ h. (let past = c.is_past_clients.ensures.1 (subst Q (sym counted) h) in let none = c.if-is_past_clients.false in absurd (cc))) in
    let error : c.from_residual.result ≡ Err c.in_err-note.field-0.0 = error-is c.from_residual.result c.in_err-note.field-0.0 c.from_residual.ensures.1 in (
      λ h. (omega arith, subst P (sym pairs) (c.in_err-note.ensures.pairs.0 (ap (λ f. Err f) (error-same c.in_err-note.field-0.0 Pairs (sym error ∙ h))))),
      λ h. error ∙ ap (λ f. Err f) (error-same c.in_err-note.field-0.0 Pairs (c.in_err-note.ensures.pairs.1 (subst P pairs h.1))),
    )

pub returns-clause-ok : goal.returns-clause-ok
returns-clause-ok c lease moment calls s =
    call-told lease moment c.args.now c.time-time.result Dirty c.args.client.now c.args.number c.args.asked c.args.objects.now c.args.self.now c.note.new.self calls c.time-time.ensures.sound.ordered c.time-time.ensures.value
    (c.in_ok-note.ensures.ok
    ∙ ap (λ (n : ℤ). table_after c.grant-granted.result Dirty c.args.client.now n c.args.objects.now c.time-time.result c.args.self.now) (to_z-of_z w64 c.args.number c.ranges.number)
    ∙ ap (λ g. table_after g Dirty c.args.client.now c.args.number c.args.objects.now c.time-time.result c.args.self.now) granted) s
  where
    granted : c.grant-granted.result ≡ grant lease c.args.asked
    granted =
        c.grant-granted.ensures.value
        ∙ ap (λ (n : ℤ). grant c.self.inside.lease n) (to_z-of_z w64 c.args.asked c.ranges.asked)
        ∙ ap (λ l. grant l c.args.asked) (ap (λ (t : LeaseTable). t.lease) c.self.view_is ∙ s.is_lease)

pub returns-clause-clients : goal.returns-clause-clients
returns-clause-clients c lease moment calls s =
    let counted : clients_after c.self.inside.clients.entries c.args.client.now c.time-time.result ≡ clients_with_call lease (max c.args.now moment) calls c.args.client.now =
    ap (λ es. clients_after es c.args.client.now c.time-time.result) (ap (λ (t : LeaseTable). t.entries) c.self.view_is)
    ∙ sym (clients-told lease moment c.args.now c.time-time.result c.args.client.now c.args.self.now calls c.time-time.ensures.sound.ordered c.time-time.ensures.value s) in
    let Q : ℕ → Type 0 = λ n. MAX_CLIENTS < n in
    let few : clients_with_call lease (max c.args.now moment) calls c.args.client.now ≤ MAX_CLIENTS =
    no-more MAX_CLIENTS _ (λ h. (let past = c.is_past_clients.ensures.1 (subst Q (sym counted) h) in let none = c.if-is_past_clients.false in absurd (cc))) in
    (λ h. absurd (cc), λ h. absurd (omega arith))

pub returns-clause-pairs : goal.returns-clause-pairs
returns-clause-pairs c lease moment calls s =
    let pairs : pairs_with_call lease calls (dirty_call (max c.args.now moment) c.args.client.now c.args.number c.args.asked c.args.objects.now) ≡ pairs_after c.time-time.result c.args.self.now.entries c.args.client.now Dirty c.args.objects.now =
    pairs-told lease moment c.args.now c.time-time.result Dirty c.args.client.now c.args.number c.args.asked c.args.objects.now c.args.self.now calls c.time-time.ensures.sound.ordered c.time-time.ensures.value s in
    let P : ℕ → Type 0 = λ n. MAX_PAIRS < n in
    (λ h. absurd (cc), λ h. (let never = c.in_ok-note.ensures.pairs.1 (subst P pairs h.1) in absurd (cc)))

pub returns-clause-freed : goal.returns-clause-freed
returns-clause-freed c = trimmed-noted _ Dirty c.args.client.now _ c.args.objects.now c.time-time.result c.args.self.now c.note.new.self c.in_ok-note.ensures.ok
