-- Each setting is what is read where its body begins.
-- Assumes nothing.
use mathlib.Core.Path.{◌≡◌, sym, ◌∙◌}
use lib.ListN.{get_or}
use Rattle.std.proofs.Common.{rules}
use Rattle.octets.proofs.NumberLaws.{be-one}
use Rattle.settings_rules.proofs.RuleLaws.{method-length, retention-length, limit-length}
use Rattle.settings_read.specs.Reading.{settings_in}
use Rattle.settings_read.proofs.ShownLaws.{number-shown, target-shown}
use Rattle.settings_read.proofs.settings_in.Goals as goal

pub returns : goal.returns
unfolding settings_in
returns c =
    let s = c.args.s.now in
    let method = number-shown s c.requires 1 1 method-length _ c.body_place.ensures _ c.map-method.ensures.cases
    (λ at x p. let e : x ≡ get_or s at 0 = search rules in e ∙ sym (be-one s at)) in
    let retention = number-shown s c.requires 2 2 retention-length _ c.body_place-2.ensures _ c.map-retention.ensures.cases
    (λ at x p. search rules) in
    let limit = number-shown s c.requires 3 4 limit-length _ c.body_place-3.ensures _ c.map-limit.ensures.cases
    (λ at x p. search rules) in
    let target = target-shown s c.requires _ c.body_place-4.ensures _ _ c.and_then-address.ensures (λ at p. search rules)
    c.map-target.ensures.cases (λ x y p. search rules) in
    λ i. record { edition = c.edition.ensures i; method = method i; retention = retention i; limit = limit i; target = target i }
