-- Each query has its own table, with the values that were read.
use Rattle.std.proofs.Common.{map}
use Rattle.mp_control.specs.Settings.{settings_in}
use Rattle.mp_model.specs.Facts.{JobFacts, QueryFacts}
use Rattle.mp_words.specs.declared.options.QueryName.TheVariants.{Q1, Q2, Q3, Q4, Q5, Q6, Q7, Q8}
use Rattle.mp_words.specs.Values.{audit_in}
use Rattle.mp_command.specs.Config.{flow_to_audit}
use Rattle.mp_command.proofs.Asked.{of_named}
use Rattle.mp_audit_command.specs.Judging.{Judges}
use Rattle.mp_audit_command.proofs.judging.judge_named.Goals as goal

pub returns-in-Q1 : goal.returns-in-Q1
returns-in-Q1 c =
    let options = c.args.options.now in
    let Says = λ (Cell : Type 0) (q : QueryFacts Cell) (j : JobFacts). Judges q j options.depth options.paced (map (λ v. v.items) c.args.journal.now) c.args.answer.now c.judge.result in
    of_named (flow_to_audit (audit_in options)) c.args.parts.events.items (settings_in c.args.parts.settings) Says _ Q1 c.in-Q1.is _ c.given.ensures c.requires.settings.values c.judge.ensures

pub returns-in-Q2 : goal.returns-in-Q2
returns-in-Q2 c =
    let options = c.args.options.now in
    let Says = λ (Cell : Type 0) (q : QueryFacts Cell) (j : JobFacts). Judges q j options.depth options.paced (map (λ v. v.items) c.args.journal.now) c.args.answer.now c.judge-in-Q2.result in
    of_named (flow_to_audit (audit_in options)) c.args.parts.events.items (settings_in c.args.parts.settings) Says _ Q2 c.in-Q2.is _ c.given-in-Q2.ensures c.requires.settings.values c.judge-in-Q2.ensures

pub returns-in-Q3 : goal.returns-in-Q3
returns-in-Q3 c =
    let options = c.args.options.now in
    let Says = λ (Cell : Type 0) (q : QueryFacts Cell) (j : JobFacts). Judges q j options.depth options.paced (map (λ v. v.items) c.args.journal.now) c.args.answer.now c.judge-in-Q3.result in
    of_named (flow_to_audit (audit_in options)) c.args.parts.events.items (settings_in c.args.parts.settings) Says _ Q3 c.in-Q3.is _ c.given-in-Q3.ensures c.requires.settings.values c.judge-in-Q3.ensures

pub returns-in-Q4 : goal.returns-in-Q4
returns-in-Q4 c =
    let options = c.args.options.now in
    let Says = λ (Cell : Type 0) (q : QueryFacts Cell) (j : JobFacts). Judges q j options.depth options.paced (map (λ v. v.items) c.args.journal.now) c.args.answer.now c.judge-in-Q4.result in
    of_named (flow_to_audit (audit_in options)) c.args.parts.events.items (settings_in c.args.parts.settings) Says _ Q4 c.in-Q4.is _ c.given-in-Q4.ensures c.requires.settings.values c.judge-in-Q4.ensures

pub returns-in-Q5 : goal.returns-in-Q5
returns-in-Q5 c =
    let options = c.args.options.now in
    let Says = λ (Cell : Type 0) (q : QueryFacts Cell) (j : JobFacts). Judges q j options.depth options.paced (map (λ v. v.items) c.args.journal.now) c.args.answer.now c.judge-in-Q5.result in
    of_named (flow_to_audit (audit_in options)) c.args.parts.events.items (settings_in c.args.parts.settings) Says _ Q5 c.in-Q5.is _ c.given-in-Q5.ensures c.requires.settings.values c.judge-in-Q5.ensures

pub returns-in-Q6 : goal.returns-in-Q6
returns-in-Q6 c =
    let options = c.args.options.now in
    let Says = λ (Cell : Type 0) (q : QueryFacts Cell) (j : JobFacts). Judges q j options.depth options.paced (map (λ v. v.items) c.args.journal.now) c.args.answer.now c.judge-in-Q6.result in
    of_named (flow_to_audit (audit_in options)) c.args.parts.events.items (settings_in c.args.parts.settings) Says _ Q6 c.in-Q6.is _ c.given-in-Q6.ensures c.requires.settings.values c.judge-in-Q6.ensures

pub returns-in-Q7 : goal.returns-in-Q7
returns-in-Q7 c =
    let options = c.args.options.now in
    let Says = λ (Cell : Type 0) (q : QueryFacts Cell) (j : JobFacts). Judges q j options.depth options.paced (map (λ v. v.items) c.args.journal.now) c.args.answer.now c.judge-in-Q7.result in
    of_named (flow_to_audit (audit_in options)) c.args.parts.events.items (settings_in c.args.parts.settings) Says _ Q7 c.in-Q7.is _ c.given-in-Q7.ensures c.requires.settings.values c.judge-in-Q7.ensures

pub returns-in-Q8 : goal.returns-in-Q8
returns-in-Q8 c =
    let options = c.args.options.now in
    let Says = λ (Cell : Type 0) (q : QueryFacts Cell) (j : JobFacts). Judges q j options.depth options.paced (map (λ v. v.items) c.args.journal.now) c.args.answer.now c.judge-in-Q8.result in
    of_named (flow_to_audit (audit_in options)) c.args.parts.events.items (settings_in c.args.parts.settings) Says _ Q8 c.in-Q8.is _ c.given-in-Q8.ensures c.requires.settings.values c.judge-in-Q8.ensures
