-- Chains of keys: one solution more is linked, and a solution is found along its chain. Assumes nothing.
use Rattle.model.specs.Kit.{◌≡◌, sym, ap, ◌∙◌, subst, List, ℕ, ◌+◌, ◌-◌, ◌*◌, ◌/◌, ◌%◌, ◌≤◌, ◌<◌, ℕ_discrete, dec_lt, arith, T, length, set, replicate, length-replicate}
use Rattle.model.specs.{Lists.at, Problem.Problem, Problem.is_solution}
use Rattle.model.proofs.{Lists.set_each, Lists.at_replicate, Lists.at_ext, Tree.solution_e}
use Rattle.families.specs.{Families.solutions_of, Inner.Walk.solution_at, Inner.Numbered.key_of, Inner.Numbered.key_at, Inner.Numbered.Last, Inner.Numbered.Chained}
use Rattle.families.specs.Inner.Numbered.{Unlinked, Listed, Finding}
use Rattle.families.proofs.{Numbers.at_solution, Numbers.number_of, Keys.Digits, Keys.key_same, Rows.listed_key}
use Rattle.model.proofs.Pairs as P

-- ---- the chains are made
pub unlinked_begin : Unlinked (replicate 1021 0)
unlinked_begin = record { size = length-replicate {A = ℕ} 1021 0; empty = λ h l. at_replicate 1021 h }

pub chained_begin : {p : Problem} {keys heads : List ℕ} → Unlinked heads → Chained p keys heads 0
chained_begin u = record {
  keyed = λ i l. absurd (omega arith);
  linked = λ i l. absurd (omega arith);
  headed = λ h l. record { most = omega (arith, u.empty h l); own = λ j e. absurd (omega (arith, u.empty h l)); none = λ j a b. absurd (omega arith) };
}

-- a number more that is in another chain
last_kept : {p : Problem} {m chain link : ℕ} → Last p m chain link → (key_at p m % 1021 ≡ chain → ⊥) → Last p (m + 1) chain link
last_kept {p} {m} {chain} {link} o n = record { most = omega (arith, o.most); own = o.own; none = λ j a b. go j a b (ℕ_discrete j m) }
  where
    go : (j : ℕ) → link ≤ j → j < m + 1 → Dec (j ≡ m) → key_at p j % 1021 ≡ chain → ⊥
    go j a b (yes q) e = n (ap (λ (z : ℕ). key_at p z % 1021) (sym q) ∙ e)
    go j a b (no q) e = o.none j a (omega arith) e

last_new : (p : Problem) (m : ℕ) {chain : ℕ} → key_at p m % 1021 ≡ chain → Last p (m + 1) chain (m + 1)
last_new p m e = record { most = omega arith; own = λ j q. (let z : j ≡ m = omega arith in ap (λ (n : ℕ). key_at p n % 1021) z ∙ e); none = λ j a b. absurd (omega arith) }

module _ {p : Problem} {rows : List ℕ} {variables : ℕ} (a : Listed p rows variables) (i : ℕ) (l : i < length (solutions_of p)) {keys heads : List ℕ} (c : Chained p keys heads i)
    {own : ℕ} (e : own ≡ key_of variables (λ x. at rows (i * variables + x))) where
  is_key : own ≡ key_at p i
  is_key = listed_key a i l e

  old_head : Last p i (own % 1021) (at heads (own % 1021))
  old_head = c.headed (own % 1021) (omega arith)

  pub chained_link : at heads (own % 1021) < 4096
  chained_link = let m = old_head.most in let f = a.few in omega arith

  pub chained_turn : i < length keys → length heads ≡ 1021 → Chained p (set keys i (65536 * own + at heads (own % 1021))) (set heads (own % 1021) (i + 1)) (i + 1)
  chained_turn room wide = record {
    keyed = λ j h. set_each (λ (j v : ℕ). v / 65536 ≡ key_at p j) keys i _ j room (omega (arith, chained_link, is_key)) (λ n. c.keyed j (omega arith));
    linked = λ j h. set_each (λ (j v : ℕ). Last p j (key_at p j % 1021) (v % 65536)) keys i _ j room new (λ n. c.linked j (omega arith));
    headed = λ h m. set_each (λ (h v : ℕ). Last p (i + 1) h v) heads (own % 1021) (i + 1) h (omega arith) (last_new p i here) (λ n. last_kept (c.headed h m) (λ q. n (sym q ∙ here)));
  }
    where
      here : key_at p i % 1021 ≡ own % 1021
      here = ap (λ (z : ℕ). z % 1021) (sym is_key)

      new : Last p i (key_at p i % 1021) ((65536 * own + at heads (own % 1021)) % 65536)
      new = subst (Last p i (key_at p i % 1021)) (let z : at heads (own % 1021) ≡ (65536 * own + at heads (own % 1021)) % 65536 = let m = chained_link in omega arith in z)
          (subst (λ (z : ℕ). Last p i z (at heads (own % 1021))) (sym here) old_head)

-- ---- a solution is sought: it is in the chain, before the link
pub record Seeking (p : Problem) (s : List ℕ) (key link : ℕ) : Type 0 where
  pub number : ℕ
  pub is : solution_at p number ≡ s
  pub before : number < link
  pub within : link ≤ length (solutions_of p)
  pub chain : (j : ℕ) → link ≡ j + 1 → key_at p j % 1021 ≡ key % 1021

module _ {p : Problem} {s keys heads : List ℕ} {key : ℕ} (f : Finding p s keys heads key) where
  has_key : (t : ℕ) → solution_at p t ≡ s → key_at p t ≡ key
  has_key t e = ap (λ (u : List ℕ). key_of p.variables (at u)) e ∙ sym f.sought

  -- a link to the last below m in its chain
  onto : {m link t : ℕ} → m ≤ length (solutions_of p) → Last p m (key % 1021) link → t < m → solution_at p t ≡ s → Seeking p s key link
  onto {m} {link} {t} w o l e = record { number = t; is = e; before = go (dec_lt t link); within = let a = o.most in omega arith; chain = o.own }
    where
      go : Dec (t < link) → t < link
      go (yes h) = h
      go (no h) = absurd (o.none t (omega arith) l (ap (λ (z : ℕ). z % 1021) (has_key t e)))

  pub seeking_begin : Seeking p s key (at heads (key % 1021))
  seeking_begin = let n = number_of p f.good f.respected s f.solves in onto (omega arith) (f.chained.headed (key % 1021) (omega arith)) n.1 n.2

  module _ {link : ℕ} (k : Seeking p s key link) where
    pub seeking_bounds : (1 ≤ link) × (link ≤ 4096)
    seeking_bounds = let a = k.before in let b = k.within in let c = f.few in (omega arith, omega arith)

    last : link - 1 < length (solutions_of p)
    last = let a = k.before in let b = k.within in omega arith

    rest : key_at p (link - 1) % 1021 ≡ key % 1021
    rest = k.chain (link - 1) (let a = k.before in omega arith)

    pub seeking_turn : (at keys (link - 1) / 65536 ≡ key → ⊥) → Seeking p s key (at keys (link - 1) % 65536)
    seeking_turn n =
        let a = last in
        onto (omega arith) (subst (λ (z : ℕ). Last p (link - 1) z (at keys (link - 1) % 65536)) rest (f.chained.linked (link - 1) last)) (go (ℕ_discrete k.number (link - 1))) k.is
      where
        go : Dec (k.number ≡ link - 1) → k.number < link - 1
        go (yes e) = absurd (n (f.chained.keyed (link - 1) last ∙ ap (key_at p) (sym e) ∙ has_key k.number k.is))
        go (no e) = let a = k.before in omega arith

    pub seeking_less : at keys (link - 1) % 65536 < link
    seeking_less = let a = (f.chained.linked (link - 1) last).most in let b = k.before in omega arith

    pub seeking_end : at keys (link - 1) / 65536 ≡ key → (link - 1 < length (solutions_of p)) × (solution_at p (link - 1) ≡ s)
    seeking_end e = (
      last,
      at_ext t s ((solution_e p t st).sized ∙ sym (solution_e p s f.solves).sized)
          (λ x lx. key_same p.variables (at t) (at s) (digits t st) (digits s f.solves) same x (subst (λ (z : ℕ). x < z) (solution_e p t st).sized lx)),
    )
      where
        t : List ℕ
        t = solution_at p (link - 1)

        st : T (is_solution p t)
        st = at_solution p f.good f.respected (link - 1) last

        digits : (u : List ℕ) → T (is_solution p u) → Digits p.variables (at u)
        digits u su x h = let b = P.sol_lt p f.good u su x h in let c = f.good.sixteen in omega arith

        same : key_at p (link - 1) ≡ key_of p.variables (at s)
        same = sym (f.chained.keyed (link - 1) last) ∙ e ∙ f.sought
