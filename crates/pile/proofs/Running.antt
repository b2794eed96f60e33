-- A list of calls, one call longer.
use Rattle.std.proofs.Common.{◌≡◌, ℕ, List, [], ◌∷◌, ◌++◌, map, sym, refl, ap, ◌∙◌, subst}
use Rattle.std.proofs.lemmas.List.{append_assoc, append-nil, map_push}
use Rattle.pile.specs.declared.calls.Call.{Call}
use Rattle.pile.specs.declared.calls.Event.{Event}
use Rattle.pile.specs.Events.{asked, after, taken}
use Rattle.pile.specs.Runs.{Terms, State, Stands, Shown, History, Run}

-- one more call is told
pub asked-push : (calls : List Call) (call : Call) (events : List Event) (e : Event) → map asked events ≡ calls → asked e ≡ call →
    map asked (events ++ e ∷ []) ≡ calls ++ call ∷ []
asked-push calls call events e each a = map_push asked events e ∙ ap (λ c. map asked events ++ c ∷ []) a ∙ ap (λ cs. cs ++ call ∷ []) each

-- the events so far: what goes on from here goes on from the start
pub record Running (t : Terms) (orders : List ℕ) (s : State) (events : List Event) (k : State) : Type 0 where
  pub history : (rest : List Event) (z : State) → History t (taken orders events) k rest z → History t orders s (events ++ rest) z
  pub stands : Stands t (taken orders events) k

taken-push : (orders : List ℕ) (events : List Event) (e : Event) → taken orders (events ++ e ∷ []) ≡ after (taken orders events) e
taken-push orders [] e = refl
taken-push orders (x ∷ events) e = taken-push (after orders x) events e

pub running_none : (t : Terms) (orders : List ℕ) (s : State) → Stands t orders s → Running t orders s [] s
running_none t orders s v = record { history = λ rest z h. h; stands = v }

pub running_more : (t : Terms) (orders : List ℕ) (s k m : State) (events : List Event) (e : Event) →
    Running t orders s events k → Shown t (taken orders events) k e m × Stands t (after (taken orders events) e) m →
    Running t orders s (events ++ e ∷ []) m
running_more t orders s k m events e r p =
    let x = taken-push orders events e in
    record {
      history = λ rest z h.
          subst (λ es. History t orders s es z) (sym (append_assoc events (e ∷ []) rest))
          (r.history (e ∷ rest) z (m, p.0, p.1, subst (λ os. History t os m rest z) x h));
      stands = subst (λ os. Stands t os m) (sym x) p.1;
    }

pub running_all : (t : Terms) (orders : List ℕ) (s : State) (calls : List Call) (events : List Event) (k : State) →
    map asked events ≡ calls → Running t orders s events k → Run t orders s calls events k
running_all t orders s calls events k each r = record {
  each = each;
  history = subst (λ es. History t orders s es k) (append-nil events) (r.history [] k refl);
  ends = r.stands;
}
